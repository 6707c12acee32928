pub mod ArraysLemmas
pub mod VecsLemmas
pub mod ArrayRows
pub mod VecRows
