pub mod Leads
pub mod Numbers
mod Steps
mod Branches
pub mod Follows
