pub mod Discards
pub mod Verdict
