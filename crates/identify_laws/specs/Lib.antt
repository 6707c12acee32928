pub mod Binders
pub mod Environments
pub mod Laws
pub mod MeaningSamples
pub mod Taken
pub mod Trees
pub mod TypingSamples
pub mod Values
