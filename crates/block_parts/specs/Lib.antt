-- Reading order: Block. Inner is for the functions between the crates.
pub mod Block
pub mod Inner
