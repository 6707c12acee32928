pub mod FirstText
pub mod OperationsLemmas
pub mod Mirrored
pub mod FlatMirrored
pub mod FirstTree
pub mod Sizes
