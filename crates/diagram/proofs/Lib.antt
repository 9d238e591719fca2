pub mod ArrowLists
pub mod DrawnLemmas
pub mod Drawings
pub mod FlagLemmas
pub mod ListLemmas
pub mod ShownLemmas
pub mod SignLemmas
