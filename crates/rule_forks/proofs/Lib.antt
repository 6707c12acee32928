mod ClosingLemmas
mod OpeningLemmas
mod ResultsLemmas
pub mod StepsOfForks
