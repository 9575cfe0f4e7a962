pub mod Extensions
pub mod Literals
pub mod States
pub mod Ticking
