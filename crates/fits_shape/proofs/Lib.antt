mod Leads
mod Grown
mod Steps
mod Blocks
pub mod Follows
pub mod Shapes
