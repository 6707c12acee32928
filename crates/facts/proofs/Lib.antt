mod KnownLemmas
mod StackLemmas
mod ToldLemmas
