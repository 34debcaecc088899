use Rattle.std.proofs.Common.{◌≡◌, map, take}
use Rattle.share_text.specs.Lines.{seen_of}
use Rattle.share_text.proofs.seeing.seen_in.Given as goal

abbrev pub invariant-loop-reads : goal.invariant-loop-reads
invariant-loop-reads l = l.seen.items ≡ map (map (seen_of l.input.composites)) (take l.reads-index l.input.readers)
