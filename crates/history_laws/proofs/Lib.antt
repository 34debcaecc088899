pub mod Apart
pub mod Names
pub mod Runs
mod Frames
pub mod BinSteps
pub mod ArenaSteps
pub mod CacheSteps
pub mod PlaceSteps
pub mod Told
pub mod Bins
pub mod Roots
pub mod ArenaTakings
pub mod Regions
pub mod TakingMoves
pub mod InPlace
