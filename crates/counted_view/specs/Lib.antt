pub mod Nests
pub mod Rows
pub mod Trees
pub mod NestSeats
