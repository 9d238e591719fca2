-- a node that an index lends
pub mod WorldLemmas
pub mod Lent
pub mod Takings
-- what is named, and not there
pub mod Missing
-- the start, and deliveries one after the other
pub mod UsedStorages
pub mod StartLemmas
pub mod FlushLemmas
-- all of it, for the public calls
pub mod WorldSound
