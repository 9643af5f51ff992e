pub mod Ops
pub mod Unary
