use Rattle.std.proofs.Common.{List, take}
use Rattle.pool_law.specs.declared.note.Note.{Note}
use Rattle.run_check.specs.Tallying.{NamesHold}
use Rattle.run_check.proofs.FirstLemmas.{Reached}
use Rattle.run_check.proofs.totals.unborn_at.Given as goal

abbrev pub invariant-loop-at : goal.invariant-loop-at
invariant-loop-at l =
    Reached (λ (s : Unit {0}) (ns : List Note). NamesHold l.tallies ns) tt tt (take l.at l.notes)
