pub mod Meaning
pub mod Properties
