pub mod Settings
pub mod Words
pub mod WordForm
pub mod Pools
