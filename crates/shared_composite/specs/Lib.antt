pub mod Cores
pub mod Endings
pub mod Reading
pub mod Homes
pub mod Boards
