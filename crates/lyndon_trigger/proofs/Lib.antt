pub mod Simple
pub mod Impostors
