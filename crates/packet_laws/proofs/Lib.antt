pub mod Plain
pub mod Trailing
pub mod Readback
pub mod Signatures
pub mod Passing
pub mod SameBytes
