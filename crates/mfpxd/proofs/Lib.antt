mod Feeds
mod Horizons
mod Written
