use Rattle.std.proofs.Common.{◌≡◌, drop}
use Rattle.pool_law.specs.declared.note.Object.{Object}
use Rattle.pool_law.specs.Logs.{own}
use Rattle.run_picture.specs.Slots.{slots_in, entered}
use Rattle.run_picture.proofs.history.enter.Given as goal

abbrev pub invariant-loop-note : goal.invariant-loop-note
invariant-loop-note l =
    entered l.lane (slots_in l.slots.items) (own (Object.Arena l.arena) (drop l.note-index l.notes))
    ≡ entered l.lane (slots_in l.initial.slots.items) (own (Object.Arena l.arena) l.notes)
