pub mod Rising
pub mod Taken
pub mod Again
pub mod Padded
pub mod Pieces
pub mod Listed
pub mod Given
pub mod Labels
