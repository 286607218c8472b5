pub mod Plans
pub mod Texts
pub mod Fits
pub mod Passing
pub mod Givers
pub mod Moving
pub mod Answering
pub mod Given
