pub mod Back
pub mod BodyReading
pub mod ConstExprs
pub mod Fitting
pub mod Fuel
pub mod Groups
