pub mod MemberLemmas
pub mod ListsLemmas
pub mod SettlingLaws
pub mod Usages
