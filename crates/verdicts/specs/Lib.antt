pub mod Explaining
pub mod Verdicts
pub mod RequestIndex
pub mod Placement
pub mod Execution
pub mod Search
