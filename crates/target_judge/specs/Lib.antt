pub mod Shape
pub mod Taking
pub mod Numbers
pub mod Told
pub mod States
pub mod Judging
pub mod Reads
