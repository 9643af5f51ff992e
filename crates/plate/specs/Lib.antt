pub mod Plate
pub mod Inner
