pub mod Source
pub mod Section
pub mod Answer
pub mod Ends
pub mod Labels
