use Rattle.std.proofs.Common.{◌≡◌, ◌++◌, map, replicate, drop, None}
use Rattle.pool_law.specs.declared.note.Object.{Object}
use Rattle.pool_law.specs.Logs.{notes_at}
use Rattle.run_picture.specs.Slots.{slots_in}
use Rattle.run_picture.proofs.history.empty_slots.Given as goal

abbrev pub invariant-loop-log : goal.invariant-loop-log
invariant-loop-log l =
    slots_in l.slots.items
    ++ replicate (notes_at (Object.Arena l.arena) (map (λ x. x.notes) (drop l.log-index l.logs))) None
    ≡ replicate (notes_at (Object.Arena l.arena) (map (λ x. x.notes) l.logs)) None
