pub mod Bags
pub mod Up
pub mod Down
pub mod Small
pub mod HeapRows
