pub mod Completions
pub mod Masks
pub mod Findings
