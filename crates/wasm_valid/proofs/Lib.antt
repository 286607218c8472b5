pub mod Accepting
pub mod Driving
pub mod Ending
pub mod Stacks
