pub mod TextPasses
pub mod LibraryLemmas
pub mod SoundRows
