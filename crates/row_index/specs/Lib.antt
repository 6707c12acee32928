pub mod FirstRow
pub mod Index
