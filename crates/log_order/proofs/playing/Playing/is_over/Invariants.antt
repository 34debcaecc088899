use Rattle.std.proofs.Common.{◌<◌, ◌≤◌, ℕ, length, get_or}
use Rattle.pool_law.specs.Logs.{of_lane}
use Rattle.log_order.specs.Spots.{notes_in}
use Rattle.log_order.proofs.playing.Playing.is_over.Given as goal

abbrev pub invariant-loop-lane : goal.invariant-loop-lane
invariant-loop-lane l =
    (lane : ℕ) → lane < l.lane → length (of_lane (notes_in l.logs) lane) ≤ get_or l.self.next.items lane 0
