pub mod Homes
pub mod Print
pub mod Programs
pub mod Samples
