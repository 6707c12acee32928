pub mod Taken
pub mod Trees
pub mod Fits
