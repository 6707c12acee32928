pub mod Apart
mod Only
pub mod Promise
