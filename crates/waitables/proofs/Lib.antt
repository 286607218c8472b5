pub mod Agreements
pub mod Histories
pub mod Joining
pub mod Placements
pub mod Readying
pub mod Showing
pub mod Standing
pub mod Waiting
