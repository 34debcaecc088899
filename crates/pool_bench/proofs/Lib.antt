pub mod HeldRoots
pub mod Runs
pub mod MailLaws
