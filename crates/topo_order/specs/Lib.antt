pub mod Sorting
pub mod Walking
