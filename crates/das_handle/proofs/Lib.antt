pub mod Arms
pub mod Walked
pub mod Matched
pub mod Stages
pub mod Bounds
