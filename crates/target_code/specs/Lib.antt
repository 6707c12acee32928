pub mod Names
pub mod Reps
pub mod Texts
pub mod Reserved
pub mod Lines
pub mod Formed
