pub mod Reread
pub mod Check
pub mod Again
