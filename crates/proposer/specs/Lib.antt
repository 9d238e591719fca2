pub mod Campaigning
pub mod Faults
pub mod Proposing
pub mod Protocol
pub mod Requests
