pub mod Escaped
pub mod Elements
pub mod Growing
