pub mod Declaring
pub mod References
