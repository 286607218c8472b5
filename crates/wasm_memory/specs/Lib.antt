pub mod Bytes
pub mod Laws
pub mod Lends
pub mod Loads
pub mod Memories
pub mod Stores
