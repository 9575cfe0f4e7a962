pub mod Playing
pub mod Cases
