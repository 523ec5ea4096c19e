pub mod Copied
pub mod Low
