-- Reading order: EditFile; Fields is what the inner function is stated by.
pub mod EditFile
pub mod Fields
