pub mod Sums
pub mod Places
pub mod Runs
pub mod Tables
pub mod Exact
pub mod Explain
pub mod Headlined
