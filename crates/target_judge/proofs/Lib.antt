pub mod Numbers
pub mod States
pub mod Distinct
pub mod Facts
