pub mod Assigning
pub mod Signs
pub mod Leaving
pub mod Giving
pub mod Beginning
