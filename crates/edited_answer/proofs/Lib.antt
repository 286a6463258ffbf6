pub mod Settled
pub mod Printed
