pub mod Maps
pub mod Ends
pub mod Kept
