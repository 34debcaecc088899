use Rattle.std.proofs.Common.{◌≡◌, ◌++◌, false, drop}
use Rattle.pool_law.specs.Leaks.{accesses}
use Rattle.run_check.specs.Merging.{dones_in}
use Rattle.run_check.specs.Reporting.{accesses_in}
use Rattle.run_check.proofs.records.accesses_to.Given as goal

abbrev pub invariant-loop-done : goal.invariant-loop-done
invariant-loop-done l =
    accesses_in l.all.items ++ accesses l.root l.live (dones_in (drop l.done-index l.dones))
    ≡ accesses l.root false (dones_in l.dones)
