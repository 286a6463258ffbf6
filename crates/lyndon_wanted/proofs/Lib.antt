pub mod Realised
pub mod Wanted
