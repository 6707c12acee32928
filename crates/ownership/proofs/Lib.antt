pub mod ContextLemmas
pub mod StepsLemmas
