pub mod Lengths
mod Parts
