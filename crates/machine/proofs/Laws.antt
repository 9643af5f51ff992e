-- The laws of the crate's definitions.
pub mod Alike
pub mod Answered
pub mod Back
pub mod Blind
pub mod Block
pub mod Counted
pub mod Door
pub mod Entry
pub mod Run
pub mod Same
pub mod Turn
pub mod Until
