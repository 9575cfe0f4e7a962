pub mod LiteralLaws
pub mod Listed
pub mod ClauseSteps
pub mod TickSteps
