use Rattle.std.proofs.Common.{◌≡◌, ◌+◌, drop}
use Rattle.pool_law.specs.LaneLaw.{before_stop, replies_in}
use Rattle.lane_reader.proofs.runs.before_stop.Given as goal

abbrev pub invariant-loop-i : goal.invariant-loop-i
invariant-loop-i l = before_stop (replies_in (drop l.i l.replies)) + l.i ≡ before_stop (replies_in l.replies)
