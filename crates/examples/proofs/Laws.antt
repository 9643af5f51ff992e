-- The laws of the crate's definitions.
pub mod Reserved
pub mod Table
