pub mod Equals
mod Lists
