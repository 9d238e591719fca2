pub mod Accepting
pub mod AcceptedValues
pub mod Forms
pub mod Loading
pub mod Protocol
pub mod Ranges
pub mod Spelling
pub mod State
