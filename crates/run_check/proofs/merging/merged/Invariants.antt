use Rattle.run_check.specs.Gathering.{left_of}
use Rattle.run_check.specs.Merging.{dones_in}
use Rattle.run_check.proofs.MergingLemmas.{SoFar, left_total}
use Rattle.run_check.proofs.merging.merged.Given as goal

abbrev pub invariant-loop-lane : goal.invariant-loop-lane
invariant-loop-lane l =
    SoFar (left_of l.initial.left.items) (left_of l.left.items) (dones_in l.dones.items) l.number

abbrev pub decreases-loop-lane : goal.decreases-loop-lane
decreases-loop-lane l = left_total l.left.items
