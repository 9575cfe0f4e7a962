pub mod Fitting
pub mod Raising
pub mod Assumptions
pub mod Shrinking
