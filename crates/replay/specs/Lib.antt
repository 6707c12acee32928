pub mod Schedules
pub mod Reading
pub mod Sights
pub mod Kept
pub mod Told
pub mod Turns
pub mod Facts
pub mod Samples
