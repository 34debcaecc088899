use Rattle.std.proofs.Common.{◌≡◌, ℕ, length, take, map}
use Rattle.pool_law.specs.declared.run.Shape.{Shape}
use Rattle.pool_law.specs.Logs.{Logs, of_lane, entry_of}
use Rattle.lane_reader.specs.Reading.{entries_in}
use Rattle.run_check.specs.Storing.{AreHistories}
use Rattle.run_check.proofs.entries.told_of_lane.Given as goal

abbrev pub invariant-loop-note : goal.invariant-loop-note
invariant-loop-note l = record {
  as_many : length l.told.items ≡ l.note-index;
  entries : (shape : Shape) (logs : Logs) (lane : ℕ) → AreHistories shape logs l.histories →
      l.notes ≡ of_lane logs lane →
      entries_in (take l.note-index l.notes) l.told.items ≡ map (entry_of logs) (take l.note-index l.notes);
}
