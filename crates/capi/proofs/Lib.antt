pub mod Bounds
pub mod Exchanged
pub mod Left
