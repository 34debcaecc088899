-- The notes of each lane, by object.
use Rattle.std.specs.Prelude.{◌≡◌, ℕ, zero, suc, List, [], ◌∷◌, map, Option, Some, None, Vec}
use Rattle.std.specs.BTreeMap.{get}
use Rattle.std.specs.declared.alloc.Global.{Global}
use Rattle.pool_law.specs.declared.note.Did.{Did}
use Rattle.pool_law.specs.declared.note.Object.{Object}
use Rattle.pool_law.specs.declared.run.LaneLog.{LaneLog}
use Rattle.pool_law.specs.declared.run.Answered.{Answered}
use Rattle.pool_law.specs.Logs.{Logs, of_lane, own}
use Rattle.lane_reader.specs.Counting.{key_cmp}
use Rattle.run_check.specs.Keying.{object_key}
use Rattle.run_check.specs.Gathering.{notes_data}
use Rattle.run_check.specs.declared.gathering.HistoryNote.{HistoryNote}
use Rattle.run_check.specs.declared.object_notes.ObjectNotes.{ObjectNotes}

-- the notes of each lane
abbrev pub notes_in : List LaneLog → Logs
notes_in logs = map (λ l. l.notes) logs

-- the replies of each lane
abbrev pub replies_in : List LaneLog → List (List Answered)
replies_in logs = map (λ l. l.replies) logs

-- the notes of a list that may be there
abbrev pub notes_found : Option (Vec HistoryNote Global) → List (ℕ × Did)
notes_found None = []
notes_found (Some notes) = notes_data notes.items

-- the notes of a lane at an object
abbrev pub notes_at : ObjectNotes → Object → List (ℕ × Did)
notes_at by_object object = notes_found (get key_cmp by_object.map (object_key object))

-- what each lane has at an object
abbrev pub laned : List ObjectNotes → Object → ℕ → List (ℕ × Did)
laned [] object lane = []
laned (s ∷ rest) object zero = notes_at s object
laned (s ∷ rest) object (suc lane) = laned rest object lane

-- these are the notes of each lane, by object
abbrev pub AreByObject : List ObjectNotes → Logs → Type 0
AreByObject lanes logs =
    (object : Object) (lane : ℕ) → laned lanes object lane ≡ own object (of_lane logs lane)
