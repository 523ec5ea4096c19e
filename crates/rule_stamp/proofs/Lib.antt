pub mod StampKept
pub mod Signed
pub mod Distances
