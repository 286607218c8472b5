pub mod There
pub mod Loans
pub mod Fit
