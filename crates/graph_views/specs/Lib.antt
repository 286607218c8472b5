pub mod Names
pub mod Canons
pub mod Callees
