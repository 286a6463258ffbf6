pub mod Word
pub mod Last
