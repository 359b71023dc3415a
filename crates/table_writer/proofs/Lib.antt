pub mod Passes
pub mod Behind
pub mod Promises
