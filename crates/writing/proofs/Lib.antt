pub mod Joining
pub mod Rows
