pub mod Stretch
pub mod Follow
