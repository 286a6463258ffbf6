pub mod Column
pub mod Lengths
pub mod Begins
pub mod Examples
