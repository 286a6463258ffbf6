pub mod After
pub mod Turn
