pub mod Customs
pub mod Ended
pub mod Fitting
pub mod Ranges
pub mod Rows
