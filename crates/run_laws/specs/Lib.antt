pub mod RunLaws
pub mod OwnedRuns
pub mod InPart
pub mod Readers
pub mod Doubling
