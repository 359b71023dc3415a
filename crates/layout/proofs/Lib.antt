pub mod Cuts
pub mod Waits
pub mod Promises
