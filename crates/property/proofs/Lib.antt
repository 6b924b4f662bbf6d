pub mod Keys
pub mod Puts
pub mod Places
pub mod Tested
pub mod Effects
pub mod Rests
pub mod Decided
