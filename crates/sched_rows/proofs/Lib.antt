pub mod Ranges
pub mod ReadOurs
pub mod JobRows
pub mod Restarts
mod RestartLoop
mod Lowest
pub mod Back
