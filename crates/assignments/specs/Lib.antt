pub mod Limits
pub mod Assignments
pub mod Literals
pub mod Values
pub mod Laws
