use Rattle.std.proofs.Common.{length}
use Rattle.object_steps.proofs.ChunkLemmas.{Merges}
use Rattle.object_steps.proofs.chunk.changing.merge.Given as goal

abbrev pub invariant-loop-run : goal.invariant-loop-run
invariant-loop-run l = Merges l.fn.runs.items l.left.items l.new.items

abbrev pub decreases-loop-run : goal.decreases-loop-run
decreases-loop-run l = length l.left.items
