use Rattle.std.proofs.Common.{List, take}
use Rattle.std.specs.Prelude.{IsTrue}
use Rattle.std.specs.List.{list_all}
use Rattle.pool_law.specs.declared.note.Note.{Note}
use Rattle.pool_law.specs.Logs.{note_stands}
use Rattle.run_check.proofs.FirstLemmas.{Reached}
use Rattle.run_check.proofs.stands.astray_at.Given as goal

abbrev pub invariant-loop-at : goal.invariant-loop-at
invariant-loop-at l =
    Reached (λ (s : Unit {0}) (ns : List Note). IsTrue (list_all (note_stands l.shape l.lane) ns)) tt tt
    (take l.at l.notes)
