mod Counting
mod Ending
pub mod Keeping
pub mod Meetings
mod Stopping
mod Telling
pub mod Coming
