use Rattle.std.proofs.Common.{◌≡◌, ℕ, List, [], map, take}
use Rattle.run_text.specs.Lines.{AreTold, Line}
use Rattle.run_text.specs.Knowing.{Knows, line_told}
use Rattle.run_text.proofs.filling.takings_told.Given as goal

abbrev pub invariant-loop-line : goal.invariant-loop-line
invariant-loop-line l =
    (arenas : ℕ) (lines : List Line) → l.told ≡ map line_told lines → AreTold arenas lines [] lines
    → Knows l.known (take l.line-index lines) []
