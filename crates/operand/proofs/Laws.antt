-- The laws of the crate's definitions.
pub mod Bounds
pub mod Destination
pub mod Modes
pub mod Operand
