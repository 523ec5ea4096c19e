pub mod Messages
pub mod Blanked
pub mod Pieces
