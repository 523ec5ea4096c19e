pub mod Pieces
pub mod Endings
