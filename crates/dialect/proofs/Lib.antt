pub mod Early
pub mod Names
