pub mod Meaning
pub mod Layers
