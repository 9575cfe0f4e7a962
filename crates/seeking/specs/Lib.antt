pub mod Seeking
pub mod Choosing
pub mod Including
