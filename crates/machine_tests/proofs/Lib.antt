mod Agreeing
pub mod Typing
