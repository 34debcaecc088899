use Rattle.std.proofs.Common.{◌≡◌, ◌-◌, ◌^◌, take}
use Rattle.std.specs.Prelude.{min}
use Rattle.pool_law.specs.Traces.{bytes_asked}
use Rattle.trace_text.proofs.limits.byte_total.Given as goal

abbrev pub invariant-loop-lane : goal.invariant-loop-lane
invariant-loop-lane l = l.total ≡ min (bytes_asked (take l.lane-index l.lanes)) (2 ^ 64 - 1)
