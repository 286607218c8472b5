pub mod Emptiness
pub mod Leb
pub mod NumberReading
pub mod OpcodeReading
