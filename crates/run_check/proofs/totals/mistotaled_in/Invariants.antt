use Rattle.std.proofs.Common.{List, take}
use Rattle.pool_law.specs.declared.note.Note.{Note}
use Rattle.run_check.specs.Tallying.{BirthsHold}
use Rattle.run_check.proofs.FirstLemmas.{Reached}
use Rattle.run_check.proofs.totals.mistotaled_in.Given as goal

abbrev pub invariant-loop-note : goal.invariant-loop-note
invariant-loop-note l =
    Reached (λ (s : Unit {0}) (ns : List Note). BirthsHold l.tallies ns) tt tt (take l.note-index l.notes)
