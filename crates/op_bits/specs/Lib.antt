pub mod Bits
pub mod Maps
pub mod BitsRules
pub mod MapRules
