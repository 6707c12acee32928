pub mod FallsLemmas
