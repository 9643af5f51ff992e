pub mod Format7
pub mod Rows
