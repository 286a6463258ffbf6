pub mod Seams
pub mod Survey
