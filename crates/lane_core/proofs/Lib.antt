pub mod RoomLaws
pub mod OpenedLaws
pub mod GrowWays
pub mod StageWays
pub mod StageKinds
pub mod LaneLogs
pub mod LaneRooms
pub mod LaneGrown
pub mod CloseTurns
pub mod EitherLane
pub mod StoppedLogs
pub mod Heeding
pub mod StoppedKept
pub mod StoppedTurns
pub mod LaneKept
pub mod LaneTurns
pub mod Carrying
pub mod LaneCloses
mod PlayedLists
mod PlayedRoom
mod PlayedSeats
mod PlayedLogs
mod PlayedAnswers
mod PlayedStops
mod PlayedReport
mod PlayedBirths
mod PlacedBirths
mod PlayedLeaks
mod PlayedReported
mod PlayedRun
