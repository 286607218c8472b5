pub mod Seen
pub mod Reads
pub mod Moves
pub mod Replies
