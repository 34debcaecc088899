pub mod Relaying
