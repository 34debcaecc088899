use Rattle.std.proofs.Common.{◌≡◌, length, map, take}
use Rattle.run_text.specs.Knowing.{notes_in}
use Rattle.run_text.proofs.logs.unanswered.Given as goal

abbrev pub invariant-loop-list : goal.invariant-loop-list
invariant-loop-list l = map (λ log. log.notes) l.logs.items ≡ notes_in (take (length l.yielded) l.fn.notes.items)
