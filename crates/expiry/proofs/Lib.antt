pub mod Entries
pub mod Fronts
pub mod Meanings
pub mod Places
