pub mod Next
pub mod Reached
pub mod Running
pub mod State
