pub mod Ids
pub mod Moves
