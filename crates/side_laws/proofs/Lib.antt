pub mod Tails
pub mod Left
pub mod Alike
