pub mod Callers
pub mod Slots
pub mod Tasks
