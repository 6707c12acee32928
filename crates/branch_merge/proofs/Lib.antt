pub mod PlacesLemmas
pub mod ShapesLemmas
