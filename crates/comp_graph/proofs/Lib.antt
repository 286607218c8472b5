pub mod FuncsPassed
pub mod RunningTold
