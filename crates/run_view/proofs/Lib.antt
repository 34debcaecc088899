pub mod OutcomeLaws
pub mod RootLaws
