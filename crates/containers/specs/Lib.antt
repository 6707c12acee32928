pub mod Bag
pub mod Rising
pub mod Sets
