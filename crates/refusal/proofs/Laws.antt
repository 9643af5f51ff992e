-- The laws of the crate's definitions.
pub mod Page
pub mod Answer
pub mod Four
pub mod Refusal
