pub mod Ascending
pub mod Entries
