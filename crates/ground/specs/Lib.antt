pub mod Ground
pub mod Grounds
pub mod Rack
pub mod Ownership
pub mod Lending
pub mod Pieces
pub mod Deeds
pub mod Racks
