pub mod AllowedLemmas
pub mod HearLemmas
pub mod KnownLemmas
pub mod MajorityLemmas
pub mod PrefixLemmas
pub mod SlotLemmas
pub mod TallyLemmas
