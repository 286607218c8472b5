pub mod Layout
pub mod Limited
