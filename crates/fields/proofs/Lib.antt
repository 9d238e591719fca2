pub mod FieldExamples
pub mod FieldLaws
pub mod FieldLemmas
pub mod IdLemmas
pub mod LengthLemmas
pub mod LoopLemmas
pub mod PushLemmas
pub mod SequenceLemmas
