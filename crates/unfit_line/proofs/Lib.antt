mod Names
mod Calls
mod Needed
mod Tests
pub mod Whole
mod Lines
mod SamplesSeen
