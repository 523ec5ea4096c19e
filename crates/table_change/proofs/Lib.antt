pub mod Alter
pub mod Slots
pub mod Turns
pub mod Changed
pub mod Untouched
pub mod Written
