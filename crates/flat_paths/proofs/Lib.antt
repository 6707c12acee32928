pub mod MayBe
pub mod Unfold
pub mod Rises
pub mod Ties
pub mod Depth
pub mod Turns
pub mod Single
pub mod Stated
