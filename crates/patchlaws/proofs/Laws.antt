-- The laws of the crate's definitions.
pub mod Again
pub mod Given
pub mod Labels
pub mod Last
pub mod Listed
pub mod Modes
pub mod Offsets
pub mod Padded
pub mod Pieces
pub mod Rising
pub mod Taken
