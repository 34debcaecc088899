use Rattle.std.proofs.Common.{◌≡◌, ◌+◌, ◌≤◌, drop}
use Rattle.pool_law.specs.declared.id.RootId.{RootId}
use Rattle.pool_law.specs.Counts.{count_from}
use Rattle.lane_reader.specs.Reading.{entries}
use Rattle.lane_reader.specs.Counting.{count_in}
use Rattle.lane_reader.proofs.lane.Lane.pass.Given as goal

abbrev pub invariant-loop-note : goal.invariant-loop-note
invariant-loop-note l = record {
  names : l.self.names ≡ l.initial.self.names;
  asked : l.self.asked ≡ l.initial.self.asked;
  within : (root : RootId) → count_in l.self.counts root ≤ count_in l.initial.self.counts root + l.note-index;
  counts : (root : RootId) →
      count_from root (count_in l.self.counts root) (drop l.note-index (entries l.log))
      ≡ count_from root (count_in l.initial.self.counts root) (entries l.log);
}
