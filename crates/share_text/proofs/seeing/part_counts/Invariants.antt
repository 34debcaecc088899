use Rattle.std.proofs.Common.{◌≡◌, map, take, length}
use Rattle.share_text.proofs.seeing.part_counts.Given as goal

abbrev pub invariant-loop-parts : goal.invariant-loop-parts
invariant-loop-parts l = l.counts.items ≡ map length (take l.parts-index l.composites)
