use Rattle.lane_reader.specs.Reading.{entries}
use Rattle.lane_reader.proofs.CuttingLemmas.{StopsSoFar}
use Rattle.lane_reader.proofs.cuts.cut_stopped.Given as goal

abbrev pub invariant-loop-i : goal.invariant-loop-i
invariant-loop-i l =
    StopsSoFar l.lane l.commands l.replies (entries l.log) l.i l.counts.items (entries l.rest)
