pub mod BareLemmas
pub mod Registers
pub mod StepsBare
pub mod Walked
