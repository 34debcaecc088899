pub mod Reaching
pub mod Plans
pub mod Compositions
