pub mod Coming
pub mod Names
pub mod Loans
pub mod Fit
pub mod Lifting
pub mod Passing
