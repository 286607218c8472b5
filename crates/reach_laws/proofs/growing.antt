pub mod Stores
pub mod Passing
pub mod Waking
pub mod Meeting
pub mod Copying
pub mod Moving
pub mod Answering
pub mod Stepping
