use Rattle.std.proofs.Common.{◌≡◌, List, [], map, take}
use Rattle.run_text.specs.Lines.{AreTold, Line}
use Rattle.run_text.specs.Knowing.{Knows, line_told}
use Rattle.run_text.proofs.filling.Filler.told_by.Given as goal

abbrev pub invariant-loop-line : goal.invariant-loop-line
invariant-loop-line l =
    (lines : List Line) → l.told ≡ map line_told lines → AreTold l.arenas lines [] lines
    → Knows l.known lines (take l.line-index lines)
