pub mod FitsText
