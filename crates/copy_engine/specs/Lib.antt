pub mod Answering
pub mod Copying
pub mod Hosted
pub mod Hosting
pub mod Nested
pub mod Rooms
pub mod Turns
