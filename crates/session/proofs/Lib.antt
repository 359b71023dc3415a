pub mod Boundary
pub mod Taken
pub mod Since
pub mod Walked
pub mod Fuel
pub mod Cuts
pub mod Faults
pub mod Promises
