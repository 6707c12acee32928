pub mod Workers
pub mod Forking
