pub mod OneNode
pub mod Steps
pub mod Parts
pub mod Refinement
pub mod OneLog
pub mod Progress
-- all of it, for every step, flush and round
pub mod SoundSteps
pub mod PromisesKept
pub mod Weaving
-- a ballot in nine bytes
pub mod PackedBallotLemmas
