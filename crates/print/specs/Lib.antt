pub mod Records
pub mod Printing
