pub mod Format10
pub mod Inner
