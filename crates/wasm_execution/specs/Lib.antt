pub mod Invoking
pub mod Places
pub mod Run
pub mod Shape
pub mod Stacks
pub mod Stepping
pub mod Waiting
pub mod Zeros
