pub mod Parts
pub mod Waking
pub mod Moving
pub mod Answering
pub mod Turning
