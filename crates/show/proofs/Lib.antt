pub mod Digested
