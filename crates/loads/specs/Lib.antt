pub mod Kinds
pub mod Rows
pub mod Unions
pub mod Sums
