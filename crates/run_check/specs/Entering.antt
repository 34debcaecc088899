-- What is told of the notes of lanes.
use Rattle.std.specs.Prelude.{◌≡◌, ℕ, List, length, map, Some, slice_get, Vec}
use Rattle.std.specs.List.{AllZip}
use Rattle.std.specs.declared.alloc.Global.{Global}
use Rattle.pool_law.specs.declared.note.Note.{Note}
use Rattle.pool_law.specs.declared.run.LaneLog.{LaneLog}
use Rattle.pool_law.specs.Logs.{Logs, of_lane, entry_of}
use Rattle.object_steps.specs.declared.told.PlaceTold.{PlaceTold}
use Rattle.lane_reader.specs.Reading.{entries_in}

-- the note stands in a lane's log
abbrev pub IsNotedIn : Logs → Note → Type 0
IsNotedIn logs note = (lane : ℕ) × (k : ℕ) × (slice_get (of_lane logs lane) k ≡ Some note)

-- with what is told, a lane's notes are its entries
pub record IsToldOf (logs : Logs) (told : Vec PlaceTold Global) (log : LaneLog) : Type 0 where
  pub entries : entries_in log.notes told.items ≡ map (entry_of logs) log.notes
  pub as_many : length told.items ≡ length log.notes

-- with what is told, each lane's notes are its entries
abbrev pub AreTold : Logs → List (Vec PlaceTold Global) → List LaneLog → Type 0
AreTold logs told lanes = AllZip (IsToldOf logs) told lanes
