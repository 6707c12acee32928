pub mod Branches
pub mod Choices
pub mod Sides
pub mod Turns
pub mod Walks
