pub mod Closed
pub mod Laws
pub mod Meeting
pub mod Runs
pub mod Places
