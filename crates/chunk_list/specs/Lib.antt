pub mod Members
pub mod Kept
pub mod Settling
pub mod Listing
