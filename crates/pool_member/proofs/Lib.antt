mod CountLaws
mod ToldLaws
mod AloneLaws
mod PlaceLaws
pub mod Letters
pub mod Pendings
pub mod Alone
pub mod AloneLater
pub mod Keeping
pub mod Budgets
pub mod MoveLaws
pub mod Accessing
pub mod Settling
pub mod Turns
pub mod Releasing
pub mod Fresh
pub mod Bearing
pub mod Asking
pub mod Allotted
pub mod Asked
pub mod Trims
pub mod Passing
pub mod Lists
pub mod Opened
pub mod Ended
mod Skips
pub mod Returns
