pub mod Serial
pub mod Demand3
pub mod Steps
