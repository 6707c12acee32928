pub mod Held
pub mod Reads
pub mod Laws
