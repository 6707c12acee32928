pub mod Laws
pub mod Meeting
pub mod Stacks
pub mod Steps
