pub mod Marking
pub mod Highest
