pub mod Placed
pub mod Ends
pub mod Tested
