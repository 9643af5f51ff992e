pub mod Format2
pub mod Format4
pub mod Low
