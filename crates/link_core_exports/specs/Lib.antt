pub mod Cores
pub mod Held
pub mod Module
pub mod Modules
pub mod Places
pub mod Source
