pub mod Ops
pub mod Wide
pub mod Binary
pub mod Immediate
pub mod Branch
