pub mod PageLemmas
pub mod ShownLemmas
