pub mod Predicates
pub mod Bounds
pub mod Windows
pub mod Questions
pub mod Stays
pub mod Ends
pub mod Courses
