use Rattle.std.proofs.Common.{◌≡◌, ◌-◌, ◌^◌, take}
use Rattle.std.specs.Prelude.{min}
use Rattle.nest_run.specs.Inputs.{bytes_asked}
use Rattle.nest_run.proofs.reading.bytes_asked.Given as goal

abbrev pub invariant-loop-call : goal.invariant-loop-call
invariant-loop-call l = l.total ≡ min (bytes_asked (take l.call-index l.calls)) (2 ^ 64 - 1)
