pub mod Roots
pub mod Outcomes
