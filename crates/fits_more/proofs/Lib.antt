pub mod Follows
mod Less
mod Steps
