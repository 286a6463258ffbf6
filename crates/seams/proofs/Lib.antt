pub mod Between
pub mod Passed
pub mod Meets
