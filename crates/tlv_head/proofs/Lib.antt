pub mod Heads
pub mod Promises
