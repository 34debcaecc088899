pub mod Order
pub mod HandOver
pub mod Turns
pub mod Forged
pub mod ForgedSteps
pub mod MailLogs
