pub mod Steps
pub mod Laws
pub mod Shows
pub mod Told
pub mod Refusals
pub mod Waits
pub mod Promises
pub mod Rfc
