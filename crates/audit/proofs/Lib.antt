pub mod KindLemmas
pub mod NumberLemmas
pub mod RowLemmas
pub mod FileLemmas
pub mod AuditLemmas
pub mod DemandLemmas
