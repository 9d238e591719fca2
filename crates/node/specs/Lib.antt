pub mod Fetching
pub mod Places
pub mod Replica
pub mod Seen
pub mod Wanting
