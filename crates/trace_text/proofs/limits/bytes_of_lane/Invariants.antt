use Rattle.std.proofs.Common.{◌≡◌, ◌-◌, ◌^◌, take}
use Rattle.std.specs.Prelude.{min}
use Rattle.std.specs.List.{sum_by}
use Rattle.pool_law.specs.Traces.{bytes_asked_by}
use Rattle.trace_text.proofs.limits.bytes_of_lane.Given as goal

abbrev pub invariant-loop-command : goal.invariant-loop-command
invariant-loop-command l = l.total ≡ min (sum_by bytes_asked_by (take l.command-index l.commands)) (2 ^ 64 - 1)
