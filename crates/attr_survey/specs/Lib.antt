pub mod Noted
pub mod Survey
pub mod Turns
pub mod Vendors
