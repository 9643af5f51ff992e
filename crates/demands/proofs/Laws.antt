-- The laws of the crate's definitions.
pub mod Blanks
pub mod Calls
pub mod Cause7
pub mod Demand1
pub mod Demand2
pub mod Demand3
pub mod Pages
pub mod Programs
pub mod Runs
pub mod Scans
pub mod Sources
pub mod StepLines
pub mod Texts
pub mod Took
pub mod MoreCalls
pub mod WordLines
