use Rattle.std.proofs.Common.{◌≡◌, ◌-◌, ◌^◌, take}
use Rattle.std.specs.Prelude.{min}
use Rattle.share_text.specs.Inputs.{read_count}
use Rattle.share_text.proofs.reading.read_count.Given as goal

abbrev pub invariant-loop-reads : goal.invariant-loop-reads
invariant-loop-reads l = l.total ≡ min (read_count (take l.reads-index l.readers)) (2 ^ 64 - 1)
