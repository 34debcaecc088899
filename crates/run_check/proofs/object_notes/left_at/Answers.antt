use Rattle.std.proofs.Common.{rules}
use Rattle.run_check.proofs.LaneLemmas.{zip-push, zip-all}
use Rattle.run_check.proofs.ObjectNoteLemmas.{IsAt, left-are}
use Rattle.run_check.proofs.object_notes.left_at.Goals as goal

pub loop-by_object-preserved : goal.loop-by_object-preserved
loop-by_object-preserved c =
    zip-push (IsAt c.args.object.now) c.loop-by_object.left.items c.push.new.self.items c.args.lanes.now
    c.loop-by_object.by_object-index c.at.result c.by_object-item.result c.loop-by_object.invariant
    c.in_ok-push.ensures.items (search rules) c.by_object-item.is c.at.ensures

pub returns : goal.returns
returns c =
    left-are c.args.object.now c.loop-by_object.left.items c.args.lanes.now
    (zip-all (IsAt c.args.object.now) c.loop-by_object.left.items c.args.lanes.now c.loop-by_object.by_object-index
    c.loop-by_object.invariant (search rules))
