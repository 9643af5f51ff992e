-- The laws of the crate's definitions.
pub mod Lines
