pub mod Wrote
pub mod Written
pub mod Puts
pub mod Writing
pub mod Back
pub mod Fill
pub mod Block
