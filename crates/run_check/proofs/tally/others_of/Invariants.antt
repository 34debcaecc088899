use Rattle.std.proofs.Common.{◌≡◌, ◌+◌, ◌-◌, ◌*◌, ◌^◌, ◌≤◌, drop}
use Rattle.run_check.specs.Tallying.{others_sum}
use Rattle.run_check.proofs.tally.others_of.Given as goal

abbrev pub invariant-loop-at : goal.invariant-loop-at
invariant-loop-at l =
    (l.all + others_sum l.root l.lane l.at (drop l.at l.tallies) ≡ others_sum l.root l.lane 0 l.tallies)
    × (l.all ≤ l.at * (2 ^ 64 - 1))
