use Rattle.std.proofs.Common.{◌≡◌, ◌++◌, length, replicate, drop, None}
use Rattle.pool_law.specs.declared.note.Object.{Object}
use Rattle.pool_law.specs.Logs.{own}
use Rattle.run_picture.specs.Slots.{slots_in}
use Rattle.run_picture.proofs.history.add_slots.Given as goal

abbrev pub invariant-loop-note : goal.invariant-loop-note
invariant-loop-note l =
    slots_in l.slots.items ++ replicate (length (own (Object.Arena l.arena) (drop l.note-index l.notes))) None
    ≡ slots_in l.initial.slots.items ++ replicate (length (own (Object.Arena l.arena) l.notes)) None
