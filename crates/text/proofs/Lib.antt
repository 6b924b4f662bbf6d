pub mod Compared
pub mod Orders
pub mod Slashes
