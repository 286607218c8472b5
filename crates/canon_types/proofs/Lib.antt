pub mod ElementsRead
pub mod EndsOnce
pub mod FirstTypes
mod Marks
pub mod Numbered
pub mod Returning
