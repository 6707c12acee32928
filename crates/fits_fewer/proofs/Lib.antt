pub mod Balance
pub mod Fewer
