pub mod Free
pub mod Starts
pub mod Ends
