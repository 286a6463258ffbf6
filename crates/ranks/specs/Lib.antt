-- Reading order: Ranks, Demand. Inner is for the contracts between the crates.
pub mod Ranks
pub mod Demand
pub mod Inner
