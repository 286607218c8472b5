pub mod Borrowing
pub mod Lowering
pub mod Lowered
pub mod Transferring
pub mod Entering
pub mod Resolving
pub mod Passing
