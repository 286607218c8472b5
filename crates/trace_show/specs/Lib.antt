pub mod DumpText
pub mod EntryText
pub mod LabelText
pub mod Tally
pub mod Trace
pub mod Typed
