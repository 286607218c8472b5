pub mod QuietCode
pub mod TaskLines
pub mod TasksTold
pub mod Holders
