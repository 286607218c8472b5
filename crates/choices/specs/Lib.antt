pub mod Choosing
pub mod Drawing
pub mod Laws
