pub mod EachSteps
pub mod InputFits
