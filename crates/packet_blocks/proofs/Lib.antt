pub mod Stepwise
mod Windows
mod Built
