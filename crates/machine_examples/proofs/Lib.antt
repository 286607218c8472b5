pub mod Chars
pub mod Counted
pub mod runs
