pub mod Replies
pub mod Commit
pub mod Replied
