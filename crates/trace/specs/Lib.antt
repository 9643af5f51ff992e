pub mod Trace
pub mod Walk
pub mod First
