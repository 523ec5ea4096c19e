mod Choose
mod Filled
pub mod Chain
pub mod After
