pub mod Table
pub mod Md5
pub mod Steps
