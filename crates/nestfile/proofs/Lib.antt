pub mod Listing
pub mod Sizes
pub mod RowsRead
pub mod Steps
pub mod Turns
pub mod Endings
pub mod Outcomes
