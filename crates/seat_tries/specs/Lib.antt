pub mod Leaving
pub mod Allocations
pub mod Taking
