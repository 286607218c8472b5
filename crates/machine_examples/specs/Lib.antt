pub mod Cancelling
pub mod Calling
pub mod Ends
pub mod Sets
pub mod Limits
pub mod Lifting
pub mod Passing
