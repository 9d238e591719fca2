pub mod Digits
pub mod Datetime
pub mod Pairs
pub mod Document
pub mod Texts
pub mod Faults
pub mod Outline
pub mod Tokens
