pub mod Ends
pub mod Keys
pub mod Tree
pub mod TreeFalls
