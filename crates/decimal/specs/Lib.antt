-- Reading order: Decimal. Leading is for the parsers between the crates.
pub mod Decimal
pub mod Leading
