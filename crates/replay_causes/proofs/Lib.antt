pub mod Calm
pub mod Texts
pub mod One
