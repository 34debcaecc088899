pub mod Closed
pub mod Lines
pub mod Openings
pub mod Outcomes
pub mod Tellings
