pub mod Kinds
pub mod Rows
pub mod Files
pub mod Audits
pub mod Statuses
pub mod Texts
