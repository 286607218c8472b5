pub mod Bytes
pub mod Calls
pub mod Causes
pub mod MemFiles
pub mod MemSink
pub mod Reading
