pub mod Prepared
pub mod Lanes
pub mod Opened
pub mod Steps
pub mod Played
