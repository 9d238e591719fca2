pub mod Listed
mod OpenedLemmas
