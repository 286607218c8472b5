pub mod Calls
pub mod Ends
pub mod Laws
pub mod Refusals
pub mod Runs
