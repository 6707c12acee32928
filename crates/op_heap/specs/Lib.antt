pub mod Heap
pub mod Rules
