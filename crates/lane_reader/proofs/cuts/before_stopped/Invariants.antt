use Rattle.std.proofs.Common.{◌≡◌, ◌+◌, drop}
use Rattle.pool_law.specs.LaneLaw.{before_stop}
use Rattle.lane_reader.proofs.cuts.before_stopped.Given as goal

abbrev pub invariant-loop-i : goal.invariant-loop-i
invariant-loop-i l = before_stop (drop l.i l.replies) + l.i ≡ before_stop l.replies
