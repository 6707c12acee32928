pub mod Applied
pub mod Going
pub mod Parts
pub mod Used
