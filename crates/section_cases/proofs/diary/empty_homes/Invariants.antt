use Rattle.std.proofs.Common.{◌≡◌, [], length}
use Rattle.std.specs.Prelude.{All}
use Rattle.section_cases.proofs.diary.empty_homes.Given as goal

abbrev pub invariant-loop-made : goal.invariant-loop-made
invariant-loop-made l = record {
  many : length l.homes.items ≡ l._made;
  empty : All (λ d. d.notes.items ≡ []) l.homes.items;
}
