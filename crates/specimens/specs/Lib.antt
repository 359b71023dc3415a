pub mod Listed
pub mod List
