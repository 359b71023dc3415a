pub mod Written
pub mod Trip
pub mod Unwritable
pub mod Promises
