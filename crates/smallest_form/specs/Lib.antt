pub mod Smallest
pub mod Read
pub mod Programs
