use Rattle.std.proofs.Common.{◌≡◌, None, replicate}
use Rattle.object_steps.proofs.arena.no_chunks.Given as goal

abbrev pub invariant-loop-place : goal.invariant-loop-place
invariant-loop-place l = l.chunks.items ≡ replicate l._place None
