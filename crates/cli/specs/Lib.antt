pub mod Jobs
pub mod Outside
pub mod Words
