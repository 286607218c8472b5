pub mod Entries
pub mod Exact
pub mod Numbers
pub mod Plain
pub mod Readings
