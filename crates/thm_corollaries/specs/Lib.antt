pub mod Corollaries
pub mod Laws
pub mod FromC
pub mod Padding
