pub mod Whole
pub mod Verdict
