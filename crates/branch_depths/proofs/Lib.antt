pub mod Chains
pub mod Shallow
pub mod Steps
