pub mod Count
pub mod Symbols
pub mod Tables
pub mod Theorems
