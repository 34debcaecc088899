pub mod PlaceSpans
pub mod HandedLaw
pub mod PieceLaws
