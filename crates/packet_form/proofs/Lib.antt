pub mod Forms
pub mod Areas
