pub mod Derived
pub mod Formed
pub mod FreeNames
pub mod Known
pub mod Laws
pub mod TypedTrees
