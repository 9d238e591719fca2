pub mod AsRead
pub mod ClusterRuns
pub mod LineByLine
pub mod Parts
pub mod Runs
pub mod Transcripts
