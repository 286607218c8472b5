pub mod Few
pub mod Adding
