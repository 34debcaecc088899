pub mod Goings
pub mod Carrying
pub mod TriedNotes
pub mod Takings
