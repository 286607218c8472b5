pub mod Grammar
pub mod Items
pub mod Numbers
pub mod Span
pub mod Tables
