use Rattle.std.proofs.Common.{◌≡◌}
use Rattle.size_classes.specs.Sizes.{below}
use Rattle.pool_law.specs.Logs.{Logs}
use Rattle.pool_law.specs.Legal.{ends_from}
use Rattle.run_check.specs.Storing.{AreHistories}
use Rattle.run_check.proofs.ending.ends_of.Given as goal

abbrev pub invariant-loop-number : goal.invariant-loop-number
invariant-loop-number l =
    (logs : Logs) → AreHistories l.shape logs l.histories → l.ends.items ≡ ends_from l.shape logs (below l.number)
