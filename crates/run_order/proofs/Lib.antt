pub mod Fronts
pub mod Positions
pub mod MailLists
pub mod HandOver
pub mod Tests
pub mod Turns
pub mod Stuck
