-- The laws of the crate's definitions.
pub mod Printed
pub mod Within
