use Rattle.std.proofs.Common.{rules, ap, ◌∙◌}
use Rattle.pool_law.specs.Logs.{own}
use Rattle.run_check.proofs.LaneLemmas.{zip-push, zip-all}
use Rattle.run_check.proofs.ObjectNoteLemmas.{AreOf, laned-are}
use Rattle.run_check.proofs.object_notes.notes_by_object.Goals as goal

pub loop-log-preserved : goal.loop-log-preserved
loop-log-preserved c =
    zip-push AreOf c.loop-log.lanes.items c.push.new.self.items c.args.logs.now c.loop-log.log-index
    c.in_ok-by_object.by_object c.log-item.result c.loop-log.invariant c.in_ok-push.ensures.items
    (search rules) c.log-item.is
    (λ object. c.in_ok-by_object.ensures object ∙ ap (own object) c.items.ensures)

pub returns : goal.returns
returns c =
    laned-are c.loop-log.lanes.items c.args.logs.now
    (zip-all AreOf c.loop-log.lanes.items c.args.logs.now c.loop-log.log-index c.loop-log.invariant (search rules))
