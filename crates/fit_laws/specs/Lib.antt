pub mod Older
