pub mod Laws
pub mod Things
