pub mod Calm
pub mod One
