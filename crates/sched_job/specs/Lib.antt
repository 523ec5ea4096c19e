pub mod Job
pub mod Moves
