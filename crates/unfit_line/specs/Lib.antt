pub mod Tests
pub mod UnfitLine
pub mod Samples
