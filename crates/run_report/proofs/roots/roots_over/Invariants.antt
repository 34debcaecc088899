use Rattle.std.proofs.Common.{◌≡◌, ◌++◌, drop}
use Rattle.run_report.specs.Roots.{roots_over}
use Rattle.run_report.proofs.roots.roots_over.Given as goal

abbrev pub invariant-loop-log : goal.invariant-loop-log
invariant-loop-log l =
    roots_over l.step l.logs ≡ l.roots.items ++ roots_over l.step (drop l.log-index l.logs)
