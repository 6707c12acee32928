pub mod Blocks
pub mod Ends
pub mod Heads
pub mod Multisets
pub mod Values
pub mod Whole
