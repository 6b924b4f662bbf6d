pub mod Quotes
pub mod Calls
