pub mod Meaning
pub mod Verdicts
pub mod Solutions
pub mod Marks
pub mod Counted
