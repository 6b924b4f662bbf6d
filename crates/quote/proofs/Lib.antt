pub mod Inverse
pub mod Progress
