use Rattle.std.proofs.Common.{◌≡◌, ◌++◌, drop}
use Rattle.pool_law.specs.Logs.{dids}
use Rattle.object_steps.specs.Behind.{dids_behind}
use Rattle.run_check.specs.Merging.{dones_in}
use Rattle.run_check.proofs.histories.dids_of.Given as goal

abbrev pub invariant-loop-done : goal.invariant-loop-done
invariant-loop-done l =
    dids_behind l.all.items ++ dids (dones_in (drop l.done-index l.dones)) ≡ dids (dones_in l.dones)
