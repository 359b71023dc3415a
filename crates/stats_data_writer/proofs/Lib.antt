pub mod Written
pub mod Unwritable
pub mod Promises
