pub mod Laws
pub mod Numeric
pub mod Stack
pub mod Types
