pub mod Written
pub mod Trip
pub mod Converse
pub mod Unwritable
pub mod Promises
