pub mod Program
pub mod Typed
