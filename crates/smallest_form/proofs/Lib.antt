pub mod Forms
pub mod Flats
pub mod Shapes
pub mod Meanings
pub mod Safety
pub mod Formed
pub mod Right
