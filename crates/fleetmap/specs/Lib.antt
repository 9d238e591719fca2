pub mod Charts
pub mod Fleets
pub mod Pages
