pub mod Clustering
pub mod Indexing
pub mod Pumping
pub mod Queueing
