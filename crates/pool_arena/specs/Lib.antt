pub mod ArenaStates
pub mod Places
pub mod SubpageLists
pub mod Stocks
pub mod Held
pub mod Standing
pub mod Closing
