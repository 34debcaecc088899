pub mod CaseLaws
pub mod RowSteps
pub mod PlayedLaws
