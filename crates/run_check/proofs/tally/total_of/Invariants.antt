use Rattle.std.proofs.Common.{◌≡◌, ◌*◌, ◌-◌, ◌^◌, drop}
use Rattle.run_check.specs.Tallying.{total_sums, TotalsAtMost}
use Rattle.run_check.proofs.TallyLemmas.{joined}
use Rattle.run_check.proofs.tally.total_of.Given as goal

abbrev pub invariant-loop-tally : goal.invariant-loop-tally
invariant-loop-tally l =
    (joined l.totals (total_sums (drop l.tally-index l.tallies) l.root) ≡ total_sums l.tallies l.root)
    × TotalsAtMost (l.tally-index * (2 ^ 64 - 1)) l.totals
