pub mod FirstTyped
pub mod OneBlock
pub mod FirstFlat
