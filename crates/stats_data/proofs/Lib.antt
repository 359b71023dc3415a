pub mod Values
pub mod Promises
