pub mod Inputs
pub mod Kept
pub mod Samples
