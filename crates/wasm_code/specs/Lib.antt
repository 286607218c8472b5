pub mod Ends
pub mod Jumps
pub mod Sorts
