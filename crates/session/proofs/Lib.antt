pub mod Scopes
pub mod Keeping
pub mod Found
