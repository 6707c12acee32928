pub mod Cells
pub mod Levels
pub mod Changed
pub mod Cuts
pub mod Swaps
pub mod Laid
pub mod Plain
