pub mod Operand
pub mod Modes
pub mod Destination
