pub mod ListLemmas
pub mod NumberLemmas
pub mod SameLemmas
pub mod HistoryLemmas
pub mod LogLemmas
pub mod PatternLemmas
pub mod CompositeLemmas
pub mod ShapeLemmas
