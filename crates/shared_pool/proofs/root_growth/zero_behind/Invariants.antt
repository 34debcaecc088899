use Rattle.std.proofs.Common.{◌≡◌, replicate}
use lib.Seq.{paste}
use Rattle.shared_pool.proofs.root_growth.zero_behind.Given as goal

abbrev pub invariant-loop-i : goal.invariant-loop-i
invariant-loop-i l = l.bytes ≡ paste l.initial.bytes l.from (replicate l.i 0) l.i
