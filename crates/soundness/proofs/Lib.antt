pub mod Starts
pub mod Ends
pub mod Shapes
pub mod Made
pub mod SafeEnds
pub mod Rest
pub mod Bounds
pub mod Endless
