pub mod Contents
pub mod FootprintsLemmas
pub mod Facts
pub mod Ranges
pub mod Slices
