pub mod Calls
pub mod Calling
pub mod Ends
pub mod Waiters
pub mod Copies
