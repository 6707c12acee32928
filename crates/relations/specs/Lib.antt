pub mod Blocks
pub mod Represents
pub mod Values
pub mod ResultLines
pub mod Images
pub mod Samples
pub mod Laws
