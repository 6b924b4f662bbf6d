pub mod Line
pub mod Wanted
