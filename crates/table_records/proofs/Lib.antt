pub mod Fields
pub mod Texts
pub mod Chain
pub mod Pieces
pub mod Recorded
