use Rattle.std.proofs.Common.{◌≡◌, ◌++◌, drop}
use Rattle.std.specs.List.{concat}
use Rattle.share_run.proofs.wholes.whole_of.Given as goal

abbrev pub invariant-loop-part : goal.invariant-loop-part
invariant-loop-part l = concat l.parts ≡ l.bytes.items ++ concat (drop l.part-index l.parts)
