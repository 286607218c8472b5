pub mod Closed
pub mod Ends
pub mod Laws
pub mod Meeting
pub mod Runs
pub mod Places
