pub mod Lists
pub mod Moved
pub mod Within
pub mod Owned
pub mod Belonging
pub mod Tasks
pub mod Exports
pub mod Kept
