pub mod Cuts
pub mod Registers
pub mod Guessing
pub mod Lines
pub mod OneReading
pub mod Parting
