pub mod Rereading
pub mod Retold
pub mod Stored
