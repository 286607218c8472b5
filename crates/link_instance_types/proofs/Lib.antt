pub mod AskedFrom
pub mod Counting
pub mod Declares
pub mod Enclosed
pub mod Exported
pub mod Folded
pub mod Growing
pub mod Telling
