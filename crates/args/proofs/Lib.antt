-- what clap holds of the words that were given
pub mod Given
-- which words name what, and which are refused
pub mod Naming
