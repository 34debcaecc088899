use Rattle.std.proofs.Common.{◌≡◌, map, drop}
use Rattle.pool_law.specs.declared.note.Object.{Object}
use Rattle.run_picture.specs.Slots.{slots_in, all_entered}
use Rattle.run_picture.proofs.history.enter_all.Given as goal

abbrev pub invariant-loop-lane : goal.invariant-loop-lane
invariant-loop-lane l =
    all_entered (Object.Arena l.arena) l.lane (slots_in l.slots.items) (map (λ x. x.notes) (drop l.lane l.logs))
    ≡ all_entered (Object.Arena l.arena) 0 (slots_in l.initial.slots.items) (map (λ x. x.notes) l.logs)
