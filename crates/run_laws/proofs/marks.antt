pub mod Replying
pub mod Calling
