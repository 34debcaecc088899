use Rattle.std.proofs.Common.{take}
use Rattle.pool_law.specs.declared.id.RootId.{RootId}
use Rattle.lane_reader.specs.Counting.{AreWithin}
use Rattle.lane_reader.specs.Reading.{entries}
use Rattle.run_check.specs.Tallying.{others_sum, sums_in, AreAtMost}
use Rattle.run_check.proofs.FirstLemmas.{Reached}
use Rattle.run_check.proofs.NeedingLemmas.{AllLooked, none_passed, passed}
use Rattle.run_check.proofs.counting.mislooked_at.Given as goal

abbrev pub invariant-loop-at : goal.invariant-loop-at
invariant-loop-at l =
    Reached (AllLooked (λ (root : RootId). others_sum root l.lane 0 l.tallies)) (λ (root : RootId). none_passed)
    (passed l.own l.counts) (take l.at (entries l.log))
    × (AreWithin l.counts l.at × ((root : RootId) → AreAtMost l.at (sums_in l.own root)))
