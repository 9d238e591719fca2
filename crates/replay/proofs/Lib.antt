pub mod AsRead
pub mod ClusterRunning
pub mod LineByLine
pub mod NodeCount
pub mod Parts
pub mod Running
pub mod WholeLines
