pub mod Rows
pub mod Tokens
pub mod Sorts
pub mod Entries
pub mod LineItems
pub mod Closed
