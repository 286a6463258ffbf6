pub mod Decimal
pub mod Spelling
pub mod Zeros
