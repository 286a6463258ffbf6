-- Reading order: Hexadecimal, Listing. Inner is for the programs' own functions.
pub mod Hexadecimal
pub mod Listing
pub mod Inner
