pub mod Blocks
pub mod Examined
pub mod Committed
pub mod Checked
