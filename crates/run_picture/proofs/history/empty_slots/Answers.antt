use Rattle.std.proofs.Common.{◌++◌, length, replicate, None, List, ap, ◌∙◌, arith}
use Rattle.pool_law.specs.declared.note.Note.{Note}
use Rattle.pool_law.specs.declared.note.Object.{Object}
use Rattle.pool_law.specs.Logs.{own}
use Rattle.run_picture.specs.Slots.{slots_in}
use Rattle.run_picture.proofs.SlotLemmas.{slots-more}
use Rattle.run_picture.proofs.history.empty_slots.Goals as goal

pub loop-log-preserved : goal.loop-log-preserved
loop-log-preserved c =
    let object : Object = Object.Arena c.args.arena in
    let old = slots_in c.loop-log.slots.items in
    slots-more object c.args.logs.now c.loop-log.log-index c.log-item.result old (slots_in c.add_slots.new.slots.items)
    (omega arith) c.log-item.is
    (c.in_ok-add_slots.ensures
    ∙ ap (λ (ns : List Note). old ++ replicate (length (own object ns)) None) c.items.ensures)
    ∙ c.loop-log.invariant
