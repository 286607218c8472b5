pub mod Builtins
pub mod Canons
pub mod Names
pub mod Options
pub mod Reasons
pub mod Types
