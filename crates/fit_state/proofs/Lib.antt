pub mod BindLemmas
pub mod HeldLemmas
pub mod InfosLemmas
pub mod LeftLemmas
pub mod OwnersLemmas
pub mod PassLemmas
pub mod RestLemmas
pub mod ShapesLemmas
