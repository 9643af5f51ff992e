-- The laws of the crate's definitions.
pub mod Bounds
pub mod Registers
pub mod State
