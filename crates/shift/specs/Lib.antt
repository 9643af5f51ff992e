pub mod Shift
pub mod Shifted
