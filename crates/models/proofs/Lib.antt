pub mod Equality
pub mod Warnings
pub mod Unused
pub mod Promises
