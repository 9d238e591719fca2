pub mod PlaceLemmas
pub mod EditLemmas
pub mod SignLemmas
pub mod Sides
pub mod TellingLemmas
