pub mod Behind
pub mod CoresKept
pub mod Fit
pub mod Named
pub mod Passed
pub mod Placed
pub mod There
