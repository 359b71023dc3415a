pub mod Turns
pub mod LentTurns
pub mod Whole
