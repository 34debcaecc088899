use Rattle.std.proofs.Common.{◌∙◌, ap, map}
use Rattle.std.proofs.lemmas.Result.{IfOk-weaker}
use Rattle.pool_law.specs.declared.note.Object.{Object}
use Rattle.run_picture.specs.Slots.{Slots, slots_in, present, all_entered}
use Rattle.run_picture.proofs.SlotLemmas.{history-is}
use Rattle.run_picture.proofs.history.history_of.Goals as goal

pub returns : goal.returns
returns c =
    let logs = map (λ x. x.notes) c.args.logs.now in
    IfOk-weaker c.present.result _ _
    (λ dones is.
    is
    ∙ ap (λ items. present (slots_in items)) c.deref.ensures.value
    ∙ ap present
    (c.enter_all.ensures
    ∙ ap (λ (s : Slots). all_entered (Object.Arena c.args.arena) 0 s logs) c.in_ok-slots.ensures)
    ∙ history-is (Object.Arena c.args.arena) logs)
    c.present.ensures
