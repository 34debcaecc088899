use Rattle.std.proofs.Common.{take}
use Rattle.pool_law.specs.declared.note.Object.{Object}
use Rattle.run_check.specs.Marking.{none_had, had_of}
use Rattle.run_check.specs.Storing.{history_in}
use Rattle.run_check.proofs.FirstLemmas.{Reached}
use Rattle.run_check.proofs.MarkLemmas.{AllFit}
use Rattle.run_check.proofs.busy.mismarked_at.Given as goal

abbrev pub invariant-loop-at : goal.invariant-loop-at
invariant-loop-at l =
    Reached (AllFit l.lane (history_in l.histories)) (λ (object : Object). none_had) (had_of l.marked)
    (take l.at l.notes)
