pub mod Known
pub mod Learning
pub mod Places
pub mod Prefixes
pub mod Protocol
pub mod Slots
pub mod State
pub mod Tallies
