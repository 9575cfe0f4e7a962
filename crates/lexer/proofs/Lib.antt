pub mod Cutting
pub mod Figures
pub mod Magnitudes
pub mod Moves
pub mod Scanning
