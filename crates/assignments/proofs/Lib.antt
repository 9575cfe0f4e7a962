pub mod ByteLaws
pub mod OrderLaws
pub mod ClauseLaws
