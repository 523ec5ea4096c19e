pub mod Matching
pub mod Changes
pub mod Taken
