pub mod Keeping
pub mod Resolving
pub mod Moving
pub mod Waking
pub mod Nesting
pub mod Answering
