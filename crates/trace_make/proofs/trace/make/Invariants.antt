use Rattle.std.proofs.Common.{◌≡◌, ◌*◌, map}
use Rattle.size_classes.specs.Sizes.{below}
use Rattle.trace_make.specs.Draws.{first_state, state_after}
use Rattle.trace_make.specs.Generated.{lane_of}
use Rattle.trace_make.proofs.trace.make.Given as goal

abbrev pub invariant-loop-lane : goal.invariant-loop-lane
invariant-loop-lane l = record {
  made : l.made.items ≡ map (lane_of l.start l.lanes l.blocks) (below l.lane);
  drawn : l.draws ≡ state_after (2 * l.blocks * l.lane) (first_state l.start);
}
