use Rattle.std.proofs.Common.{◌≡◌, ◌+◌, ◌≤◌, take}
use Rattle.pool_law.specs.Counts.{count_from}
use Rattle.lane_reader.specs.Reading.{entries}
use Rattle.lane_reader.proofs.log.Log.count.Given as goal

abbrev pub invariant-loop-note : goal.invariant-loop-note
invariant-loop-note l = record {
  within : l.count ≤ l.first + l.note-index;
  same : l.count ≡ count_from l.root l.first (take l.note-index (entries l.self));
}
