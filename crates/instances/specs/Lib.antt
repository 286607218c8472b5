pub mod Entries
pub mod Instances
pub mod Calls
