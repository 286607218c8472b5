pub mod Binary
pub mod Laws
