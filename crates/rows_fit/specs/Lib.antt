pub mod RowsFit
