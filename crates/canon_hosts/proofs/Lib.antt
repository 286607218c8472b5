pub mod FirstTypes
pub mod First
pub mod Listing
