-- Reading order: Refusals, Answers, Filled, Interface.
pub mod Refusals
pub mod Answers
pub mod Filled
pub mod Interface
