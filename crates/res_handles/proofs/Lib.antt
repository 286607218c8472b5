pub mod Loans
pub mod Borrows
pub mod Found
pub mod Seen
pub mod Sound
pub mod Standing
pub mod Staying
