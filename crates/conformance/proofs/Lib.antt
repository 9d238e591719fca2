pub mod FixLemmas
pub mod NameLemmas
pub mod Campaigning
