pub mod Telling
pub mod Lives
pub mod Seen
