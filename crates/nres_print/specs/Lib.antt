pub mod Spellings
pub mod Heads
pub mod Exprs
pub mod Blocks
pub mod Alike
pub mod Samples
pub mod ReadsBack
