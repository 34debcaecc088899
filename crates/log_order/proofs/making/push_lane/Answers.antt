use Rattle.std.proofs.Common.{◌≡◌, ◌<◌, length, ap, subst, arith}
use Rattle.pool_law.specs.declared.run.LaneLog.{LaneLog}
use Rattle.pool_law.specs.Logs.{of_lane}
use Rattle.log_order.specs.Spots.{notes_in}
use Rattle.log_order.specs.Filling.{ArePlaced}
use Rattle.log_order.proofs.SpotLemmas.{lane-notes, as-many}
use Rattle.log_order.proofs.FillLemmas.{placed-next}
use Rattle.log_order.proofs.making.push_lane.Goals as goal

pub returns : goal.returns
returns c =
    let logs = notes_in c.args.logs.now in
    let spots = c.loop-at.graph.spots.items in
    let i = c.loop-at.invariant in
    let notes = lane-notes c.args.logs.now c.args.lane c.index-logs-lane.result c.requires.lane c.index-logs-lane.is in
    let size : c.loop-at.at ≡ length (of_lane logs c.args.lane) =
    omega (
      arith,
      c.loop-at-test.false,
      c.loop-at.auto.at-end,
      ap length notes,
      ap length c.items-notes.ensures,
      ap (λ (l : LaneLog). length l.notes) c.index-logs-lane.is,
    ) in
    let low : c.args.lane < length logs = omega (arith, as-many c.args.logs.now, c.requires.lane) in
    record {
      graph = i.graph;
      placed = placed-next logs spots c.args.lane low (subst (ArePlaced logs spots c.args.lane) size i.placed);
      listed = i.listed;
    }
