pub mod Limits
pub mod Counting
pub mod Stretches
pub mod Books
pub mod Adding
pub mod Evaluation
pub mod Listing
