pub mod boxed
pub mod seq
pub mod shared
