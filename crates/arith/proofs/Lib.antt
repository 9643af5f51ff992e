pub mod Product
pub mod Laws
