pub mod Refused
pub mod Passed
