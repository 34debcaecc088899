pub mod Texts
pub mod Seats
