pub mod Alike
pub mod Allowed
pub mod FlatMeaning
pub mod Laws
pub mod Meaning
pub mod Samples
pub mod WordOperations
