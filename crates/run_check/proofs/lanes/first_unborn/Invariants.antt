use Rattle.std.proofs.Common.{ℕ, ◌<◌}
use Rattle.pool_law.specs.declared.id.RootId.{RootId}
use Rattle.pool_law.specs.Logs.{of_lane, entries_of}
use Rattle.pool_law.specs.Counts.{count_in, count_over, is_birth, names_root}
use Rattle.run_check.specs.ByObject.{notes_in}
use Rattle.run_check.proofs.lanes.first_unborn.Given as goal

abbrev pub invariant-loop-lane : goal.invariant-loop-lane
invariant-loop-lane l =
    (k : ℕ) → k < l.lane → (root : RootId) →
    0 < count_in (names_root root) (of_lane (entries_of (notes_in l.logs)) k) →
    0 < count_over (is_birth root) (entries_of (notes_in l.logs))
