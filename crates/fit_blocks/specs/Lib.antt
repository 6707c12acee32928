pub mod Answers
pub mod Asserts
pub mod Blocks
pub mod Choices
pub mod Eithers
pub mod Endings
pub mod Loops
