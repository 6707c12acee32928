pub mod Lines
pub mod Follows
