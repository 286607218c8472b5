pub mod Lowers
pub mod Types
pub mod Settling
pub mod Entered
pub mod fit
