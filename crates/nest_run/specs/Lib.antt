pub mod Inputs
pub mod Plays
pub mod Lines
pub mod Outcomes
pub mod Steps
pub mod Standing
