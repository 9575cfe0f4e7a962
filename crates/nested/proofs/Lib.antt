pub mod Searching
pub mod Marking
pub mod Reasoning
pub mod SetLaws
