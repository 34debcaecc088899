use Rattle.std.proofs.Common.{◌≡◌, ◌<◌, List, [], length, map, take}
use Rattle.std.specs.List.{All}
use Rattle.run_text.specs.Lines.{AreTold, Line}
use Rattle.run_text.specs.Knowing.{AreMade, line_told}
use Rattle.run_text.proofs.making.Making.of.Given as goal

abbrev pub invariant-loop-line : goal.invariant-loop-line
invariant-loop-line l =
    (notes : List Line) → l.fn.told.items ≡ map line_told notes → AreTold l.fn.arenas notes [] notes → 0 < l.fn.arenas
    → All (λ (line : Line). line.0 < l.fn.lanes) notes
    → AreMade l.fn.arenas l.fn.lanes notes (take (length l.yielded) notes) l.making
