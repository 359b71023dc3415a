pub mod Grammar
pub mod Warnings
pub mod Shown
pub mod Told
pub mod Read
pub mod Rfc
