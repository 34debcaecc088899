pub mod Hashes
pub mod Told
pub mod Takes
pub mod Standing
