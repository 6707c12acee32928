pub mod Runs
pub mod Replays
pub mod Calm
pub mod Texts
