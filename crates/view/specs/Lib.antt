pub mod Beginnings
pub mod Meaning
pub mod Steps
pub mod Plans
pub mod Versions
pub mod Finished
