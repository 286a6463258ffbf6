pub mod Start
pub mod Last
pub mod Turn
pub mod Blocks
pub mod Pass
