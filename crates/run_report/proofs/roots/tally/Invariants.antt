use Rattle.std.proofs.Common.{◌≡◌, take}
use Rattle.pool_law.specs.declared.id.RootId.{RootId}
use Rattle.run_report.specs.Roots.{counted, times}
use Rattle.run_report.proofs.roots.tally.Given as goal

abbrev pub invariant-loop-root : goal.invariant-loop-root
invariant-loop-root l = (q : RootId) → counted l.tally q ≡ times (take l.root-index l.roots) q
