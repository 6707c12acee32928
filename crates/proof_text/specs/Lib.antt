pub mod Texts
pub mod Readings
pub mod Guesses
pub mod Parts
