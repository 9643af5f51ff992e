pub mod Registers
pub mod State
pub mod Stack
