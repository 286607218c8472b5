pub mod Givens
pub mod Imports
pub mod Making
pub mod Nested
pub mod Words
pub mod Fitting
