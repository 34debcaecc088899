use Rattle.std.proofs.Common.{◌≡◌, ◌-◌, ◌^◌, take}
use Rattle.std.specs.Prelude.{min}
use Rattle.pool_law.specs.Stuck.{command_count}
use Rattle.trace_text.proofs.limits.command_total.Given as goal

abbrev pub invariant-loop-lane : goal.invariant-loop-lane
invariant-loop-lane l = l.total ≡ min (command_count (take l.lane-index l.lanes)) (2 ^ 64 - 1)
