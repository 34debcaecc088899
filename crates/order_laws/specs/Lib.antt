pub mod Moments
pub mod HeadlineInOrder
pub mod Accepted
pub mod Shares
