pub mod Impostors
