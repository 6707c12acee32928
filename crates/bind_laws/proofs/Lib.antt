pub mod Bindings
pub mod Goings
