mod Acts
mod Codes
pub mod Fewer
mod Moves
