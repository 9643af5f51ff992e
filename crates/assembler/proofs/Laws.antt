-- The laws of the crate's definitions.
pub mod Ends
pub mod Good
pub mod Leaves
pub mod Labels
pub mod Section
