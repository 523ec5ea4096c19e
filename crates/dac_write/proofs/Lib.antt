pub mod Areas
pub mod Refusals
pub mod Requesting
