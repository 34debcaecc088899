pub mod Views
pub mod BoardSeats
pub mod Texts
pub mod Going
