pub mod Turns
pub mod Examples
pub mod Low
