pub mod Follow
pub mod Bytes
