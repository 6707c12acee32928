pub mod EndsLemmas
pub mod LoopsLemmas
pub mod RowsLemmas
