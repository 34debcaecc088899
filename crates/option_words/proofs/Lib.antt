pub mod Parsed
pub mod Firsts
