pub mod Zips
pub mod Known
pub mod Growing
