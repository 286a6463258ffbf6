pub mod Outcome
pub mod Theorems
pub mod Again
pub mod Examples
