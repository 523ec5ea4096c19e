pub mod ReplyCheck
