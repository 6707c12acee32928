pub mod Closing
pub mod Forks
pub mod Laws
pub mod Parts
