pub mod Slots
pub mod Orderly
pub mod Covered
pub mod Returns
pub mod Takings
