pub mod PlaceWords
pub mod ChunkStates
pub mod Outcomes
pub mod Slots
pub mod Held
