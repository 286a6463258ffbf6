pub mod Starts
pub mod Seen
