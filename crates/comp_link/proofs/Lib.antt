pub mod CanonParts
mod EndsFound
pub mod LiftParts
mod Passing
pub mod Readying
mod ResourceParts
pub mod SeenTold
pub mod Wanting
mod Whole
