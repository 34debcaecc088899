pub mod Words
pub mod Roots
pub mod ReplyTotals
