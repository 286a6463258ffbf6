pub mod Left
pub mod Next
pub mod Pass
