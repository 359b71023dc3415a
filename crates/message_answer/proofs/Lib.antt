pub mod Header
pub mod Bodies
pub mod Small
pub mod Promises
