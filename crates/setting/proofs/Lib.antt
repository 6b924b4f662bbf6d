pub mod Folded
pub mod Readings
pub mod Table
