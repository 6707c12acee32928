pub mod Infos
pub mod Left
pub mod Owners
pub mod Passing
pub mod Rests
pub mod States
