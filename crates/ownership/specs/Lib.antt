pub mod Entries
pub mod Faults
pub mod Marks
pub mod Sound
pub mod Tables
