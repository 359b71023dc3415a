pub mod Judging
pub mod Runs
pub mod First
pub mod Missing
pub mod Sizes
pub mod Taking
pub mod Calls
pub mod Promises
