use Rattle.std.proofs.Common.{◌≡◌, map, take}
use Rattle.share_text.specs.Lines.{seen_of}
use Rattle.share_text.proofs.seeing.seen_by.Given as goal

abbrev pub invariant-loop-composite : goal.invariant-loop-composite
invariant-loop-composite l = l.seen.items ≡ map (seen_of l.composites) (take l.composite-index l.reads)
