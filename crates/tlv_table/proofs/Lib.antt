pub mod Written
pub mod Table
pub mod Unwritable
pub mod Promises
