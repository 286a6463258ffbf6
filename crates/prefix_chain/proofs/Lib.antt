pub mod Before
pub mod Parted
pub mod TurnBack
