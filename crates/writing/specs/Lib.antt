pub mod Texts
pub mod Buffers
