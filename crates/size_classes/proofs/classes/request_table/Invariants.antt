use Rattle.std.proofs.Common.{◌≡◌, ℕ, ◌<◌, length}
use Rattle.std.specs.Prelude.{slice_index}
use Rattle.size_classes.specs.PageCounts.{IsFirstAtLeast}
use Rattle.size_classes.proofs.classes.request_table.Given as goal

abbrev pub invariant-loop-units : goal.invariant-loop-units
invariant-loop-units l =
    (length l.requests.items ≡ l.units)
    × ((units : ℕ) → units < l.units → IsFirstAtLeast units (slice_index l.requests.items units))
