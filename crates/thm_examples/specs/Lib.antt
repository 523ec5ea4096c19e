pub mod Sizes
pub mod Marked
