pub mod BranchLemmas
pub mod ChoiceLemmas
pub mod CycleLemmas
pub mod EitherLemmas
pub mod TurnLemmas
pub mod WalkLemmas
pub mod WholeLemmas
