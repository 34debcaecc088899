pub mod Sends
pub mod Stages
pub mod Standing
pub mod Stops
pub mod Finds
pub mod Loads
pub mod Gifts
