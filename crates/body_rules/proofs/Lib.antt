pub mod BodyLemmas
pub mod TextsLemmas
