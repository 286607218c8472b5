pub mod Bodies
pub mod Consts
pub mod Instrs
pub mod Opcodes
pub mod Parts
pub mod Reasons
pub mod Types
