pub mod NumbersPassed
pub mod ResourcesDefined
pub mod Zips
