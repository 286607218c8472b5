pub mod Kept
pub mod Types
