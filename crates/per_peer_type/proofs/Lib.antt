pub mod Flags
pub mod Promises
