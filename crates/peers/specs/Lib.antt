pub mod Cutting
pub mod Dropping
pub mod Hmac
pub mod Sealing
