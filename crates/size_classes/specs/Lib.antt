pub mod Sizes
pub mod PageCounts
pub mod Pages
pub mod Spans
pub mod Runs
pub mod Elements
pub mod Subpages
pub mod Tables
