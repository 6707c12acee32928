pub mod FirstRowLemmas
pub mod IndexLemmas
