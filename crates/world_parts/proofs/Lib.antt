pub mod Thens
pub mod Bytes
