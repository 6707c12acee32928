pub mod Bodies
pub mod Files
pub mod Refusals
