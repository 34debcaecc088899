pub mod RowLaws
pub mod ClimbLaws
pub mod LiveLaws
pub mod TreeLaws
pub mod SeatLaws
pub mod RootLaws
