pub mod Sizes
pub mod New
