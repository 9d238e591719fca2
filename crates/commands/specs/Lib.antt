pub mod Archives
pub mod Failures
pub mod Streams
pub mod Works
