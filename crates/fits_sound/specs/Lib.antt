pub mod Balanced
pub mod Called
pub mod FitsWhole
pub mod Fitted
pub mod Meant
pub mod RowShapes
pub mod World
