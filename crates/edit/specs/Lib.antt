-- Reading order: Core; Inner is between the crates.
pub mod Core
pub mod Inner
