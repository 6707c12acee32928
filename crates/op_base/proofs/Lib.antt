pub mod CountsLemmas
pub mod PushLemmas
pub mod Mults
pub mod Words
pub mod Claims
