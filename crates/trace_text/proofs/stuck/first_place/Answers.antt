use Rattle.std.proofs.Common.{rules}
use Rattle.trace_text.proofs.StuckSteps.{short_lane}
use Rattle.trace_text.proofs.stuck.first_place.Goals as goal

pub overflow_cast-result-then-at-lane : goal.overflow_cast-result-then-at-lane
overflow_cast-result-then-at-lane c =
    let within = short_lane c.args.lanes.now c.loop-lane.lane in
    search (rules, within, c.requires.few)
