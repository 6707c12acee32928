pub mod Library
pub mod RowProcedures
pub mod Sound
pub mod Laws
