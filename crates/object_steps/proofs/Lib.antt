pub mod BinLemmas
mod BytesLemmas
mod PageRunLemmas
mod ChunkLemmas
mod SizeLemmas
mod TakingLemmas
mod ArenaLemmas
mod ElementLemmas
mod AfterLemmas
pub mod TellingLemmas
