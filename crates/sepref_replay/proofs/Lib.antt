pub mod Telling
pub mod Causing
