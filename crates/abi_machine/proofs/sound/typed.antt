pub mod Limits
pub mod Imports
pub mod Made
pub mod Instantiating
pub mod Going
pub mod Bare
pub mod Starting
