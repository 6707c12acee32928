pub mod Words
pub mod Bridge
pub mod Arguments
pub mod Results
pub mod FromProcedures
pub mod CallsLemmas
pub mod Outcomes
