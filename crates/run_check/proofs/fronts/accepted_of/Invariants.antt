use Rattle.std.proofs.Common.{◌≡◌, ◌+◌, ◌-◌, ◌<◌, ◌≤◌, true, false, length, take}
use Rattle.pool_law.specs.Histories.{accepts}
use Rattle.object_steps.specs.Behind.{dids_behind}
use Rattle.run_check.proofs.fronts.accepted_of.Given as goal

abbrev pub invariant-loop-accepted : goal.invariant-loop-accepted
invariant-loop-accepted l = record {
  apart : l.accepted < l.beyond;
  inside : l.beyond ≤ length l.dids + 1;
  good : accepts l.shape l.object (take l.accepted (dids_behind l.dids)) ≡ true;
  bad : l.beyond ≤ length l.dids → accepts l.shape l.object (take l.beyond (dids_behind l.dids)) ≡ false;
}

abbrev pub decreases-loop-accepted : goal.decreases-loop-accepted
decreases-loop-accepted l = l.beyond - l.accepted
