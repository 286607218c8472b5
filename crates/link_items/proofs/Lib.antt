mod Asked
mod LiftParts
mod LowerParts
pub mod ResourceParts
