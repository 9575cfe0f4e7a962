pub mod Many
pub mod Wholes
pub mod ReadBack
