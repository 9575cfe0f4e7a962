pub mod Ledger
pub mod Admitted
pub mod Right
pub mod Law
