pub mod Fields
pub mod Laws
pub mod Waits
pub mod Refusals
pub mod Promises
pub mod Rfc
