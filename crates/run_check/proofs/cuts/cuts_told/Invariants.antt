use Rattle.std.proofs.Common.{◌≡◌, ℕ, ◌<◌, List, length, map, take}
use Rattle.pool_law.specs.declared.run.Answered.{Answered}
use Rattle.pool_law.specs.LaneLaw.{IsLaneLog, note_counts, replies_in}
use Rattle.pool_law.specs.Logs.{of_lane, entries_of}
use Rattle.run_check.specs.Cutting.{AreCuts, counts_in, lists_in}
use Rattle.run_check.specs.ByObject.{notes_in}
use Rattle.run_check.proofs.cuts.cuts_told.Given as goal

abbrev pub invariant-loop-lane : goal.invariant-loop-lane
invariant-loop-lane l = record {
  many : length l.cuts.items ≡ l.lane;
  read : (k : ℕ) → k < l.lane →
      AreCuts l.shape l.lanes (lists_in l.replies) (notes_in l.logs) (counts_in l.cuts.items) k;
  only : (answered : List (List Answered)) → map replies_in answered ≡ lists_in l.replies →
      ((lane : ℕ) → lane < length l.logs →
      IsLaneLog l.shape lane (of_lane l.lanes lane) (of_lane answered lane)
      (of_lane (entries_of (notes_in l.logs)) lane)) →
      counts_in l.cuts.items ≡ map note_counts (take l.lane answered);
}
