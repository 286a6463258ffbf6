pub mod Together
pub mod Slots
