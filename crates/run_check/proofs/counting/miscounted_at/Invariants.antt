use Rattle.std.proofs.Common.{take}
use Rattle.pool_law.specs.declared.id.RootId.{RootId}
use Rattle.lane_reader.specs.Counting.{count_in, AreWithin}
use Rattle.lane_reader.specs.Reading.{entries}
use Rattle.run_check.proofs.FirstLemmas.{Reached}
use Rattle.run_check.proofs.NeedingLemmas.{AllCounts}
use Rattle.run_check.proofs.counting.miscounted_at.Given as goal

abbrev pub invariant-loop-at : goal.invariant-loop-at
invariant-loop-at l =
    Reached AllCounts (λ (root : RootId). 0) (count_in l.counts) (take l.at (entries l.log)) × AreWithin l.counts l.at
