mod PutsLemmas
mod SpanLemmas
mod WordsLemmas
