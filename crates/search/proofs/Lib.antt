pub mod Unknowns
pub mod Steps
pub mod Overlays
pub mod Reasons
