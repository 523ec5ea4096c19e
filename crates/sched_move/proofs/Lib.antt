pub mod Slotted
pub mod Steps
