pub mod Bodies
pub mod Problems
pub mod Drafts
pub mod Read
