pub mod Mapped
pub mod Made
pub mod Lawful
pub mod Checked
