mod Changing
mod Queueing
