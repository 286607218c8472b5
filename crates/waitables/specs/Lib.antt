pub mod Placing
pub mod Sets
pub mod History
pub mod Laws
