use Rattle.std.proofs.Common.{take}
use Rattle.lane_reader.specs.Reading.{entries}
use Rattle.lane_reader.specs.Running.{Stops}
use Rattle.lane_reader.proofs.FrontLemmas.{IsLeft}
use Rattle.lane_reader.proofs.runs.reach_stopped.Given as goal

abbrev pub invariant-loop-i : goal.invariant-loop-i
invariant-loop-i l = record {
  left : IsLeft l.replies (entries l.log) l.i (entries l.rest);
  here : Stops l.lane (take l.i l.commands) (take l.i l.replies) (entries l.log);
}
