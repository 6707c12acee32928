pub mod Bodies
pub mod Findings
pub mod Firsts
pub mod Patterns
pub mod Procedures
pub mod Wholes
pub mod Signatures
