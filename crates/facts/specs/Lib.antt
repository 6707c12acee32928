pub mod Kept
pub mod Logs
pub mod Stacks
pub mod Wants
