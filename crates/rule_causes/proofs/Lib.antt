pub mod Lookups
pub mod Answers
pub mod Firsts
pub mod Passed
