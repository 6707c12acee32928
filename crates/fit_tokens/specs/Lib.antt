pub mod Changes
pub mod Logs
pub mod Stacks
pub mod Standing
