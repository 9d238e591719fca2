pub mod Identities
pub mod Places
pub mod Records
pub mod Stops
pub mod Streams
pub mod Tokens
