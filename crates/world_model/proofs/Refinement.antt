-- What moves of the protocol lead to.
pub mod MovingLemmas
pub mod WorldMoves
pub mod SafetyLemmas
pub mod OfTheRun
pub mod PromisesStand
