-- what a report says, put together
pub mod Told
