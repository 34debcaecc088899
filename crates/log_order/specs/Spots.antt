-- The notes of logs.
use Rattle.std.specs.Prelude.{List, map}
use Rattle.pool_law.specs.declared.run.LaneLog.{LaneLog}
use Rattle.pool_law.specs.Logs.{Logs}

-- the notes of each lane
abbrev pub notes_in : List LaneLog → Logs
notes_in logs = map (λ l. l.notes) logs
