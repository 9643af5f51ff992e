-- The laws of the crate's definitions.
pub mod Alike
pub mod Block
pub mod Bounds
pub mod Causes
pub mod Ends
pub mod Jumpers
pub mod Late
pub mod Locks
pub mod Restart
pub mod Saved
pub mod Told
pub mod Written
