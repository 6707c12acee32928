pub mod OrderLemmas
pub mod PlacesLemmas
pub mod PuttingLemmas
pub mod StepsLemmas
pub mod FaultsLemmas
