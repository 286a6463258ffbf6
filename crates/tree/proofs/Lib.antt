pub mod Halves
pub mod Nodes
