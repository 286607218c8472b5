pub mod Callbacks
pub mod Gates
pub mod Kinds
pub mod Laws
pub mod Runs
pub mod Stays
