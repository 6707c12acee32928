pub mod Merging
pub mod Sets
