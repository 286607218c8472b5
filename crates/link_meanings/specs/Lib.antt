pub mod Levels
pub mod Meant
pub mod Numbered
pub mod References
