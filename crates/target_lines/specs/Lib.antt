pub mod LineWords
pub mod Texts
pub mod Programs
pub mod Reading
pub mod Fits
