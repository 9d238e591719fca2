pub mod Laws
pub mod Asking
pub mod Opening
