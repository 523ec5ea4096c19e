pub mod Pieces
pub mod States
pub mod Proxies
pub mod Lengths
