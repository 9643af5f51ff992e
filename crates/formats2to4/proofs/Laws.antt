-- The laws of the crate's definitions.
pub mod Bounds
pub mod Low
pub mod Last
