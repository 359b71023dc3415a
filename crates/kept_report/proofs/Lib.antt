pub mod Tables
pub mod Promises
