pub mod NoteCounts
pub mod Histories
pub mod Standing
pub mod Measures
