pub mod Address
pub mod Warnings
pub mod Rfc
