pub mod Keeping
pub mod Moving
pub mod Waking
pub mod Nesting
pub mod Answering
pub mod Turning
