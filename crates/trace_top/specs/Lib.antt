pub mod Needs
pub mod Standing
pub mod Outcomes
pub mod Line
