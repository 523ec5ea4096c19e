pub mod Padded
pub mod Requests
pub mod Outputs
pub mod Given
pub mod Answered
