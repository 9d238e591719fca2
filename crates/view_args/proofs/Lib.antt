-- what clap holds of the words that were given
pub mod Given
