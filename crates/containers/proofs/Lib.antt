pub mod BagsOfAscending
pub mod MapsOfRising
pub mod SetItems
pub mod SetsOfRising
