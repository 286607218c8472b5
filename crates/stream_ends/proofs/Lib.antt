pub mod Counting
pub mod Keeping
pub mod Meetings
pub mod Telling
pub mod Coming
