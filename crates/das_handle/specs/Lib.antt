pub mod Refusals
pub mod Handle
pub mod Passed
