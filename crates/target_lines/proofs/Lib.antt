pub mod Lists
pub mod Pieces
pub mod Keywords
pub mod Phrases
pub mod Lines
pub mod Feeds
pub mod Lends
