pub mod There
pub mod Things
