pub mod WordLaws
pub mod HexLaws
pub mod LineLaws
pub mod RootLaws
pub mod ReplyCounts
pub mod ToldLaws
