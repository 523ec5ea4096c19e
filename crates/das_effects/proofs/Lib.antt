pub mod Values
pub mod Altering
pub mod Five
pub mod Asked
pub mod Marked
pub mod Outcomes
pub mod Altered
pub mod Rated
