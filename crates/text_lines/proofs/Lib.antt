pub mod Most
pub mod Lines
