pub mod Scheduler
pub mod Refusals
pub mod Making
pub mod Calls
pub mod Runs
