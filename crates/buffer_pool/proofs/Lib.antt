pub mod Named
pub mod Lones
mod Worked
mod Growing
mod Allocating
mod Releases
