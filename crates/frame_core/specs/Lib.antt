pub mod Frames
pub mod Standing
pub mod Feeding
