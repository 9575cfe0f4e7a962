pub mod Limits
pub mod Settings
pub mod Lines
pub mod Standing
