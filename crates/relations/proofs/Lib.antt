pub mod Small
pub mod Layouts
pub mod Tables
pub mod Others
pub mod Encoded
pub mod EncodedSets
pub mod EncodedMaps
