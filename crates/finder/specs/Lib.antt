pub mod Bodies
pub mod Meanings
pub mod Fitting
pub mod Sessions
pub mod Vetoed
pub mod Listed
