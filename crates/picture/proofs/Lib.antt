pub mod Escapes
pub mod Parts
pub mod Growth
