pub mod Layout
pub mod Left
pub mod Lent
