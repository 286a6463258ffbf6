-- For the contracts between the crates. Reading order: Nested, Symbols.
pub mod Nested
pub mod Symbols
