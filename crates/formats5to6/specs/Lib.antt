pub mod Format5
pub mod Format6
