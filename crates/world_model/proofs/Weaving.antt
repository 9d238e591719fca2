-- The lives of processes are a run of a world.
pub mod Reached
pub mod HandedLaws
pub mod WithPuts
pub mod Happenings
pub mod Woven
pub mod Begun
