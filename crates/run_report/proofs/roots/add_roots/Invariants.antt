use Rattle.std.proofs.Common.{◌≡◌, ◌++◌, drop}
use Rattle.run_report.specs.Roots.{roots_in}
use Rattle.run_report.proofs.roots.add_roots.Given as goal

abbrev pub invariant-loop-note : goal.invariant-loop-note
invariant-loop-note l =
    l.initial.roots.items ++ roots_in l.step l.notes ≡ l.roots.items ++ roots_in l.step (drop l.note-index l.notes)
