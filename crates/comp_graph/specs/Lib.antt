pub mod Closed
pub mod CoreItems
pub mod Graph
pub mod Needs
pub mod Passed
pub mod Running
