pub mod Clusters
pub mod ClusterViews
pub mod Indexes
pub mod Lowest
pub mod Passages
pub mod Pumps
pub mod Queues
