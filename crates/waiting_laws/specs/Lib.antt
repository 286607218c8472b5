pub mod Offers
pub mod Missing
pub mod Deadlocks
pub mod Telling
pub mod Events
