pub mod Decided
pub mod Words
