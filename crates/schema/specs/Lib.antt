pub mod Meaning
pub mod Sames
