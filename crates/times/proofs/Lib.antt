pub mod Times
pub mod Promises
pub mod Specimens
