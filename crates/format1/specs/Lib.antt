pub mod Format1
