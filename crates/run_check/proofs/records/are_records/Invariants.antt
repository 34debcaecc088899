use Rattle.std.proofs.Common.{◌≡◌, take}
use Rattle.run_check.specs.Reporting.{accesses_in}
use Rattle.run_check.proofs.records.are_records.Given as goal

abbrev pub invariant-loop-at : goal.invariant-loop-at
invariant-loop-at l = take l.at l.records ≡ take l.at (accesses_in l.dones)
