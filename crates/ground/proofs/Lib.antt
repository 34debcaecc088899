-- Lemmas of this crate: racks and pieces as contracts see them, then what they own.
pub mod PieceLaws
pub mod RackLaws
pub mod ClaimLaws
pub mod Crosses
pub mod ByteLaws
pub mod RackMade
pub mod RackPulled
pub mod RackPushed
pub mod RawRackLaws
pub mod RawBytesLaws
pub mod Vecs
pub mod Walks
