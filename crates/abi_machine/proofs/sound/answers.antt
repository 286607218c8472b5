pub mod Words
pub mod Moving
pub mod Waking
pub mod Answering
pub mod Answered
