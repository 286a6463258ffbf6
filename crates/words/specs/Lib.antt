-- Reading order: Bounded, Order, Factors, Tables, Rotation, Tree, Edit, Demand. Scan is for the code alone.
pub mod Bounded
pub mod Order
pub mod Factors
pub mod Tables
pub mod Rotation
pub mod Tree
pub mod Edit
pub mod Demand
pub mod Scan
