use Rattle.std.proofs.Common.{◌≡◌, ◌<◌, ℕ, length, get_or, Vec, Global}
use Rattle.pool_law.specs.Logs.{of_lane}
use Rattle.trace_text.specs.Counts.{AreRows}
use Rattle.trace_text.proofs.counts.tables.Given as goal

abbrev pub invariant-loop-lane : goal.invariant-loop-lane
invariant-loop-lane l = record {
  size : length l.list.items ≡ l.lane-index;
  each : (k : ℕ) (d : Vec (Vec ℕ Global) Global) → k < l.lane-index
      → AreRows l.side (length l.lanes) (of_lane l.lanes k) (get_or l.list.items k d).items;
}
