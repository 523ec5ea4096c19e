pub mod Meets
pub mod Passes
