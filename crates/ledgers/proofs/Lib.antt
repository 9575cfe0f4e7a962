pub mod Listing
pub mod Keeping
