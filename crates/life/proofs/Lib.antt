pub mod TellingLemmas
pub mod HandedLemmas
