pub mod Puts
pub mod Rows
mod Tallies
