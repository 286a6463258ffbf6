pub mod Along
pub mod Starts
