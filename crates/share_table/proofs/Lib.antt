pub mod Sums
pub mod Parted
pub mod Moves
pub mod Cut
pub mod Dealt
