pub mod Sums
pub mod Fitting
pub mod Judged
pub mod Back
pub mod Tilings
pub mod Seals
pub mod Replying
pub mod Fresh
