pub mod Bytes
pub mod Fit
pub mod Hosting
pub mod Nesting
pub mod Placing
pub mod Seen
pub mod Stepping
pub mod Transfers
