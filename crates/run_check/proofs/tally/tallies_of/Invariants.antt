use Rattle.std.proofs.Common.{take}
use Rattle.std.specs.List.{AllZip}
use Rattle.run_check.specs.Tallying.{IsTally}
use Rattle.run_check.proofs.tally.tallies_of.Given as goal

abbrev pub invariant-loop-log : goal.invariant-loop-log
invariant-loop-log l = AllZip IsTally l.tallies.items (take l.log-index l.logs)
