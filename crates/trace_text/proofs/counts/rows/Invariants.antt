use Rattle.std.proofs.Common.{◌≡◌, ◌<◌, ℕ, length, get_or, Vec, Global}
use Rattle.trace_text.specs.Counts.{AreCounts, meets}
use Rattle.trace_text.proofs.counts.rows.Given as goal

abbrev pub invariant-loop-lane : goal.invariant-loop-lane
invariant-loop-lane l = record {
  size : length l.list.items ≡ l.lane;
  each : (k : ℕ) (d : Vec ℕ Global) → k < l.lane → AreCounts (meets l.side k) l.commands
      (get_or l.list.items k d).items;
}
