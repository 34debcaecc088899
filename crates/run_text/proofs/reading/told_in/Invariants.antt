use Rattle.std.proofs.Common.{◌≡◌, ◌+◌, ◌++◌, ◌-◌, List, length, map, take}
use Rattle.std.specs.List.{All}
use Rattle.pool_law.specs.Text.{Text}
use Rattle.run_text.specs.Lines.{Line}
use Rattle.run_text.specs.Knowing.{FitsLine, line_text, line_told}
use Rattle.run_text.proofs.reading.told_in.Given as goal

abbrev pub invariant-loop-at : goal.invariant-loop-at
invariant-loop-at l =
    (front back : List Text) (notes : List Line) → map (λ t. t.now) l.lines ≡ front ++ (map line_text notes ++ back)
    → length front ≡ l.from → l.from + length notes ≡ l.to → All FitsLine notes
    → l.told.items ≡ map line_told (take (l.at - l.from) notes)
