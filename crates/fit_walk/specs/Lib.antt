pub mod Bodies
pub mod Plains
pub mod Walks
pub mod Wholes
