pub mod Follow
pub mod Places
pub mod Programs
pub mod Samples
pub mod Written
