pub mod Text
pub mod Kinds
pub mod Shown
