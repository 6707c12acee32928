pub mod Halving
pub mod Threaded
