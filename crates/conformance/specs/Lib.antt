pub mod Faults
pub mod Outcomes
pub mod Tasks
pub mod Scenes
