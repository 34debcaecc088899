use Rattle.std.proofs.Common.{◌<◌, ◌≤◌, take}
use Rattle.std.specs.List.{All}
use Rattle.run_check.specs.Gathering.{notes_data}
use Rattle.run_check.proofs.merging.least_of.Given as goal

abbrev pub invariant-loop-note : goal.invariant-loop-note
invariant-loop-note l = record {
  most : l.least ≤ l.number;
  least : All (λ x. l.least ≤ x.0) (notes_data (take l.note-index l.notes));
  there : l.least < l.number → All (λ x. l.least < x.0) (notes_data (take l.note-index l.notes)) → ⊥;
}
