pub mod Bins
pub mod Kept
pub mod Lending
pub mod Standing
