pub mod AllRows
mod Both
mod Calls
mod Claims
pub mod Found
mod Leading
mod Rows
mod Shapes
mod Slices
mod Through
