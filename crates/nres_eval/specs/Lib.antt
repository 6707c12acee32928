pub mod Bodies
pub mod Calls
pub mod Depth
pub mod Ends
pub mod Environment
pub mod Procedures
