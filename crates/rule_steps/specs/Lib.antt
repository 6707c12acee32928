pub mod Ends
pub mod Loops
pub mod Operations
pub mod States
