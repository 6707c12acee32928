pub mod OwnedRuns
pub mod InPart
pub mod Readers
pub mod SafeLaws
pub mod BoundedLaws
pub mod AtMost
pub mod Doubling
