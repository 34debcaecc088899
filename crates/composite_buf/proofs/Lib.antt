pub mod MapLaws
pub mod EndLaws
pub mod RangeLaws
