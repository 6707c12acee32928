pub mod Amounts
pub mod Owners
pub mod Takings
pub mod Outside
pub mod Segments
