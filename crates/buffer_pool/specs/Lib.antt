pub mod Lones
pub mod Pools
pub mod Working
