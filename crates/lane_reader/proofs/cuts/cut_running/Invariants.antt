use Rattle.std.proofs.Common.{◌+◌, ◌-◌, ◌<◌, ◌≤◌, length}
use Rattle.pool_law.specs.LaneLaw.{sweep_period}
use Rattle.lane_reader.specs.Bounding.{AreBounded}
use Rattle.lane_reader.specs.Counting.{AreWithin}
use Rattle.lane_reader.specs.Reading.{entries}
use Rattle.lane_reader.proofs.CuttingLemmas.{RunsSoFar}
use Rattle.lane_reader.proofs.cuts.cut_running.Given as goal

abbrev pub invariant-loop-i : goal.invariant-loop-i
invariant-loop-i l = record {
  asked : l.lane.asked < sweep_period;
  bounded : AreBounded (l.i + 1) l.lane;
  within : AreWithin l.lane.counts (length l.log.notes.now - length l.rest.notes.now);
  size : length l.rest.notes.now ≤ length l.log.notes.now;
  here :
      RunsSoFar l.setting.shape.now l.setting.lane l.commands l.replies (entries l.log) l.i l.counts.items
      (entries l.rest) l.lane;
}
