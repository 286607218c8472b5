mod Calling
mod CoreParts
pub mod Filling
pub mod Growth
pub mod Keeping
pub mod LevelsSeen
pub mod Loops
pub mod Made
pub mod NamedSteps
pub mod Reaching
pub mod Scopes
pub mod States
pub mod Steps
pub mod Zips
