pub mod Fitting
pub mod Carrying
pub mod Arriving
pub mod Transport
