-- One node of a world: its storage, its moves, its votes.
pub mod StorageLaws
pub mod RestartLemmas
pub mod ArmedReads
pub mod FloorLemmas
pub mod NodeMoves
pub mod Casting
pub mod ListedPuts
pub mod VotesStand
pub mod NodeComes
