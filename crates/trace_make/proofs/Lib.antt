pub mod DrawSteps
pub mod Joined
pub mod Totals
pub mod LaneFits
pub mod Places
pub mod Waits
pub mod Moves
pub mod Acceptance
