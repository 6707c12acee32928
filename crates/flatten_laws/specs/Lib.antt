pub mod Environments
pub mod Filled
pub mod Laws
pub mod MeaningSamples
pub mod Needs
pub mod Served
pub mod SizeSamples
pub mod TypingSamples
