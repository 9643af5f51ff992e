pub mod Format9
pub mod Inner
