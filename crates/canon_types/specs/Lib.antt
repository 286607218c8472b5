pub mod EndNumbers
pub mod Built
pub mod Kinds
pub mod Results
