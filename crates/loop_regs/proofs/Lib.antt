pub mod NotedLemmas
pub mod LinesLemmas
pub mod PastLemmas
