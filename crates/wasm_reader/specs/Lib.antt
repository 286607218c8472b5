pub mod Binary
pub mod Code
pub mod Examples
pub mod Items
pub mod Laws
pub mod Together
