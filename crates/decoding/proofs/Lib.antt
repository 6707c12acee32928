pub mod Loops
pub mod Decoded
