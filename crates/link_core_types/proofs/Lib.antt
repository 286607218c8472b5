pub mod Keeping
pub mod Sameness
