-- Reading order: Row. Written and Filled are for the writers between the crates.
pub mod Row
pub mod Written
pub mod Filled
