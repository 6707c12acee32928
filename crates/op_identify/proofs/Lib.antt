mod Layers
mod Fronts
mod TypedWords
