mod Refusing
mod Moving
mod Parts
mod Lengths
mod Bounds
mod Steps
