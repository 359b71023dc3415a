pub mod Equality
pub mod Promises
