pub mod SoFar
pub mod Answering
