pub mod Numerals
pub mod Options
